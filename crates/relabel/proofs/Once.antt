-- No second outcome meets the contract of a label written anew.
use Prim.Native.Nat.{ℕ}
use mathlib.Core.Path.{◌≡◌, refl, sym, ap, ◌∙◌}
use mathlib.Core.Bool.{cond}
use mathlib.Core.List.{List, ◌++◌}
use borrow.Author.Tests.{le-leb, lt-leb}
use lib.Dec.{leb}
use lib.ListN.{length, drop}
use Rattle.rules.specs.Modes.{base}
use Rattle.rules.specs.Table.{table}
use Rattle.rules.specs.Meaning.{meaning}
use Rattle.rules.specs.Written.{canonical}
use Rattle.rules.specs.Reading.{longest, Said, Outcome, accepted, refused, Reads}
use Rattle.rules.specs.Asked.{says}
use Rattle.rules.proofs.Reading.Reader.{reading_unique}
use Rattle.relabel.specs.declared.anew.Told.{Told}
use Rattle.relabel.specs.Relabels.{Relabels, written, short_room, long_written, long_table, not_read}

-- the answer and the room's last bytes
data Ending : Type 0 where
  ending : Said → List ℕ → Ending

-- what a reading decides
abbrev decided : List ℕ → List ℕ → Outcome → Ending
decided label room (refused c i) = ending (says c i 0) room
decided label room (accepted rows i) =
    cond (leb (length (table rows)) longest)
    (cond (leb (length (canonical (meaning label rows))) longest)
    (cond (leb (length (canonical (meaning label rows))) (length room))
    (ending (says 0 (length (canonical (meaning label rows))) (length (canonical (meaning label rows)))) (canonical (meaning label rows) ++ drop (length (canonical (meaning label rows))) room))
    (ending (says 11 (length (canonical (meaning label rows))) (length (canonical (meaning label rows)))) room))
    (ending (says 13 longest 0) room))
    (ending (says 11 i (length (table rows))) room)

record Decided (label room : List ℕ) (a : Ending) : Type 0 where
  outcome : Outcome
  reads : Reads base label outcome
  is : a ≡ decided label room outcome

by_reading : {label room last : List ℕ} {s : Said} → Relabels label room s last → Decided label room (ending s last)
by_reading {label} {room} (written {rows} {i} r t w h) = record { outcome = accepted rows i; reads = r; is = rw (le-leb (length (table rows)) longest t, le-leb (length (canonical (meaning label rows))) longest w, le-leb (length (canonical (meaning label rows))) (length room) h) }
by_reading {label} {room} (short_room {rows} {i} r t w h) = record { outcome = accepted rows i; reads = r; is = rw (le-leb (length (table rows)) longest t, le-leb (length (canonical (meaning label rows))) longest w, lt-leb (length (canonical (meaning label rows))) (length room) h) }
by_reading {label} (long_written {rows} {i} r t w) = record { outcome = accepted rows i; reads = r; is = rw (le-leb (length (table rows)) longest t, lt-leb (length (canonical (meaning label rows))) longest w) }
by_reading (long_table {rows} {i} r t) = record { outcome = accepted rows i; reads = r; is = rw (lt-leb (length (table rows)) longest t) }
by_reading (not_read {c} {i} r) = record { outcome = refused c i; reads = r; is = refl }

abbrev said : Ending → Said
said (ending s last) = s

abbrev bytes : Ending → List ℕ
bytes (ending s last) = last

pub relabel_once : {label room last last' : List ℕ} {s s' : Said} → Relabels label room s last → Relabels label room s' last' → (s ≡ s') × (last ≡ last')
relabel_once {label} {room} {last} {last'} {s} {s'} a b =
    let d = by_reading a in
    let d' = by_reading b in
    let e : ending s last ≡ ending s' last' = d.is ∙ ap (decided label room) (reading_unique base d.reads d'.reads) ∙ sym d'.is in
    (ap said e, ap bytes e)

-- the numbers that are handed back
pub relabelled_once : {label room last last' : List ℕ} {r r' : Told} → Relabels label room (says r.code r.place r.length) last → Relabels label room (says r'.code r'.place r'.length) last' →
    (r ≡ r') × (last ≡ last')
relabelled_once a b =
    let u = relabel_once a b in
    (ap (λ (s : Said). record { code = s.code; place = s.place; length = s.size }) u.0, u.1)
