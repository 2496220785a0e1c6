-- `gaps::remark` meets its contract.
use borrow.Author.Rules.{rules}
use Rattle.elements.proofs.Skips.{unclosed_first, unclosed_second, closed}
use Rattle.elements.proofs.gaps.remark.Goals as goal
use Rattle.elements.proofs.gaps.remark.Goals.{then-byte_at-ne42-via-then-byte_at-ne42, then-byte_at-ne42-via-else-byte_at-ne42+then-byte_at-ne47}

ruleset ways = (unclosed_first, unclosed_second, closed, rules)

pub returns-then-byte_at-ne42 : goal.returns-then-byte_at-ne42
returns-then-byte_at-ne42 c = elim c.then-byte_at-ne42.branch [ then-byte_at-ne42-via-then-byte_at-ne42 w ↦ search ways | then-byte_at-ne42-via-else-byte_at-ne42+then-byte_at-ne47 w ↦ search ways ]

pub returns : goal.returns
returns c = search ways
