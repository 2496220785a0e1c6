-- The loop over the rows of a proper table: the rows done, the rows left, and what is written so far.
use Prim.Native.Nat.{ℕ, suc, ◌+◌, ◌-◌, ◌≤◌, ◌<◌, min}
use native.Mathlib.Omega.{arith}
use Rattle.std.specs.Prelude.{Option, Some, None}
use mathlib.Core.Path.{◌≡◌, refl, sym, ap, ap₂, subst, ◌∙◌}
use mathlib.Core.Bool.{Bool, true, not}
use mathlib.Core.List.{List, [], ◌∷◌, ◌++◌, map, append_assoc, append-nil}
use lib.ListN.{length, drop, length-append, length-drop, drop_of_length-le}
use borrow.Rule.Slice.PartMut.{mid_of, put_mid}
use Rattle.rules.specs.Bytes.{fold}
use Rattle.rules.specs.Data as rule
use Rattle.rules.specs.Table.{encode, table}
use Rattle.rules.specs.Reading.{longest}
use Rattle.rules.specs.Proper.{Held, Holds, Each, one, Proper, proper_rows, Ruled, is_proper}
use Rattle.rules.specs.Meaning.{Sense, meaning, sense}
use Rattle.rules.specs.Written.{Prior, start, prior, after, around, writes}
use Rattle.rules.proofs.Tables.Proper.{proper}
use Rattle.rules.proofs.Machine.Decoding.{got, decode}
use Rattle.rules.proofs.Machine.Limits.{Codes}
use Rattle.rules.proofs.Tables.DecodeComplete.{decode_encode, got_same, nothing_got}
use Rattle.rules.proofs.Tables.Once.{codes}
use Rattle.rules.proofs.Tables.Judge.{encode_size}
use Rattle.rules.proofs.Tables.Asked.{is_rows}
use Rattle.rules.proofs.Machine.Lines.{leaves, open_after, so_far}
use Rattle.rules.proofs.Written.RowByRow.{row_more}
use Rattle.classes.specs.Places.{part, as_span, name_at}
use Rattle.rows.specs.Rows.{kind_of, row_of, deepest}
use Rattle.rows.specs.Decoding.{Decodes, no_row, a_row}
use Rattle.rows.specs.declared.Row.{Row}
use Rattle.rows.specs.declared.Row.TheVariants as rows
use Rattle.rows.proofs.Decoding.{row_there}
use Rattle.blocks.specs.Stack.{Block, block, rest, many, start_of, end_of, blocks_of, opens_of}
use Rattle.blocks.specs.declared.Blocks.{Blocks}
use Rattle.blocks.proofs.Opened.{counted}
use Rattle.table.specs.Judging.{Judges}
use Rattle.table.specs.Judging as judging
use Rattle.std.specs.Prelude.{Ok}
use Rattle.output.specs.Puts.{Puts}
use Rattle.output.proofs.Laws.{onward, long, same_part, nothing as nothing_put}
use Rattle.printing.specs.declared.Around.{Around}
use Rattle.printing.specs.Lines.{prior_of, Innermost, Enclosed, RowPut, PriorAfter}
use Rattle.printing.specs.declared.Prior as printing
use Rattle.printing.specs.declared.Prior.TheVariants as priors
use Rattle.writer.specs.Passing.{stack_after, RoomToOpen, BlocksAfter, Nests, passing, PassWrites}
use Rattle.writer.proofs.Bounded.{to_the_end, to_the_bound}
use Rattle.writer.proofs.Depth.{room_to_open}
use Rattle.writer.proofs.Nesting.{not_nested}

-- ---- what rows leave

leaves_last : (q : Prior) (xs : List Sense) (s : Sense) → leaves q (xs ++ (s ∷ [])) ≡ prior s
leaves_last q [] s = refl
leaves_last q (x ∷ xs) s = leaves_last (prior x) xs s

open_last : (o : rule.Opens) (xs : List Sense) (s : Sense) → open_after o (xs ++ (s ∷ [])) ≡ after (open_after o xs) s
open_last o [] s = refl
open_last o (x ∷ xs) s = open_last (after o x) xs s

means_append : (label : List ℕ) (xs ys : List rule.Row) → meaning label (xs ++ ys) ≡ meaning label xs ++ meaning label ys
means_append label [] ys = refl
means_append label (x ∷ xs) ys = ap (λ (l : List Sense). sense label x ∷ l) (means_append label xs ys)

-- ---- the open blocks

deep_as : (label : List ℕ) (bs : List Block) → rule.depth (opens_of label bs) ≡ many bs
deep_as label [] = refl
deep_as label (block k a b ∷ bs) = ap suc (deep_as label bs)

named_as : (label : List ℕ) (bs : List Block) → Innermost (name_at label (start_of bs) (end_of bs)) (opens_of label bs)
named_as label [] = tt
named_as label (block k a b ∷ bs) = refl

enclosed : (label : List ℕ) (b : Blocks) (a : Around) → a.depth ≡ b.depth → a.from ≡ start_of (blocks_of b) → a.upto ≡ end_of (blocks_of b) → Enclosed (opens_of label (blocks_of b)) a.depth (map fold (part label a.from a.upto))
unfolding name_at
enclosed label b a d e f = record {
  deep = deep_as label (blocks_of b) ∙ counted b.starts b.ends b.kinds b.depth ∙ sym d;
  named = rw (e, f) (named_as label (blocks_of b));
}

around_as : (label : List ℕ) (bs : List Block) → opens_of label (rest bs) ≡ around (opens_of label bs)
around_as label [] = refl
around_as label (block k a b ∷ bs) = refl

-- the blocks after a row of the code are those after its row
opens_as : (label : List ℕ) (bs : List Block) (row : Row) → opens_of label (stack_after bs row) ≡ after (opens_of label bs) (sense label (row_of row))
unfolding name_at
opens_as label bs (rows.Attribute a b) = refl
opens_as label bs (rows.Pointer a b) = refl
opens_as label bs (rows.Open k a b) = refl
opens_as label bs (rows.Close k) = around_as label bs
opens_as label bs (rows.Integer m n) = refl
opens_as label bs (rows.Float x) = refl
opens_as label bs (rows.Time t) = refl
opens_as label bs (rows.Text a b) = refl
opens_as label bs (rows.Symbol a b) = refl
opens_as label bs (rows.Unit o a b m n) = refl
opens_as label bs rows.Sequence = refl
opens_as label bs rows.SequenceEnd = refl
opens_as label bs rows.Set = refl
opens_as label bs rows.SetEnd = refl
opens_as label bs (rows.Last n) = refl

-- ---- the invariant

pub record Walking (label lent before out : List ℕ) (q : printing.Prior) (b : Blocks) (at n : ℕ) : Type 0 where
  pub short : length label ≤ longest
  pub rows : List rule.Row
  pub ruled : Ruled label lent (proper_rows rows)
  pub done : List rule.Row
  pub left : List rule.Row
  pub split : rows ≡ done ++ left
  pub rest : drop at lent ≡ table left
  pub within : at ≤ length lent
  pub puts : Puts (so_far (meaning label done)) before out n
  pub same : length out ≡ length before
  pub small : n ≤ longest
  pub prior : prior_of q ≡ leaves start (meaning label done)
  pub blocks : opens_of label (blocks_of b) ≡ open_after rule.outside (meaning label done)
  pub deep : b.depth ≤ deepest

-- the same, with the depth and the innermost block's name in hand
pub record Between (label lent before out : List ℕ) (a : Around) (b : Blocks) (at n : ℕ) : Type 0 where
  pub walking : Walking label lent before out a.prior b at n
  pub depth : a.depth ≡ b.depth
  pub start : a.from ≡ start_of (blocks_of b)
  pub end : a.upto ≡ end_of (blocks_of b)

told_bytes : {label lent : List ℕ} {rows : List rule.Row} → Ruled label lent (proper_rows rows) → lent ≡ table rows
told_bytes (is_proper e p) = e

starts : (label lent out : List ℕ) (b : Blocks) → length label ≤ longest → Judges label lent (Ok tt) → (blocks_of b ≡ []) × (b.depth ≡ 0) → Walking label lent out out priors.Start b 0 0
starts label lent out b s (judging.proper rs v) h = record {
  short = s;
  rows = rs;
  ruled = v;
  done = [];
  left = rs;
  split = refl;
  rest = told_bytes v;
  within = omega arith;
  puts = nothing_put out;
  same = refl;
  small = omega arith;
  prior = refl;
  blocks = ap (opens_of label) h.0;
  deep = omega arith;
}

-- no block is open at the start, so there is no name
pub begins : (label lent out : List ℕ) (b : Blocks) → length label ≤ longest → Judges label lent (Ok tt) → (blocks_of b ≡ []) × (b.depth ≡ 0) → Between label lent out out (record { prior = priors.Start; depth = 0; from = 0; upto = 0 }) b 0 0
begins label lent out b s j h = record { walking = starts label lent out b s j h; depth = sym h.1; start = sym (ap start_of h.0); end = sym (ap end_of h.0) }

-- every row's value and span are in order
each_holds : {P : rule.Row → Type 0} (xs : List rule.Row) (r : rule.Row) (ys : List rule.Row) → Each P (xs ++ (r ∷ ys)) → P r
each_holds [] r ys (one h hs) = h
each_holds (x ∷ xs) r ys (one h hs) = each_holds xs r ys hs

no_bytes : (rs : List rule.Row) → table rs ≡ [] → rs ≡ []
no_bytes [] e = refl
no_bytes (r ∷ rs) e = absurd (omega (arith, ap length e, length-append (encode r) (table rs), encode_size r))

-- ---- the row at the place

record Here (label lent : List ℕ) (done left : List rule.Row) (row : Row) (next : ℕ) : Type 0 where
  later : List rule.Row
  is : left ≡ row_of row ∷ later
  rest : drop next lent ≡ table later
  further : next ≤ length lent
  holds : Holds label (row_of row)
  room : (k : rule.Kind) (p : rule.Span) → row_of row ≡ rule.opened k p → rule.depth (open_after rule.outside (meaning label done)) < deepest

module _ {label lent before out : List ℕ} {q : printing.Prior} {b : Blocks} {at n : ℕ} (w : Walking label lent before out q b at n) where
  -- a row is left, and is read
  record Read : Type 0 where
    row : rule.Row
    later : List rule.Row
    is : w.left ≡ row ∷ later
    proper : Proper label (w.done ++ (row ∷ later))
    read : decode (drop at lent) ≡ got row (table later)

  reads : at < length lent → Read
  reads h = go w.left refl
    where
      go : (l : List rule.Row) → w.left ≡ l → Read
      go [] e = absurd (omega (arith, ap length (w.rest ∙ ap table e), length-drop at lent))
      go (x ∷ xs) e =
          let p : Proper label (w.done ++ (x ∷ xs)) = subst (λ (l : List rule.Row). Proper label l) (w.split ∙ ap (λ (l : List rule.Row). w.done ++ l) e) (is_rows w.ruled) in
          let a = proper.0 p in
          let c : Codes x = codes label (omega (arith, w.short)) x (each_holds w.done x xs a.values) (each_holds w.done x xs a.spans) in
          record { row = x; later = xs; is = e; proper = p; read = ap decode (w.rest ∙ ap table e) ∙ decode_encode x (table xs) c }

  here : {row : Row} {next : ℕ} → at < length lent → Decodes lent at (Some (row, next)) → Here label lent w.done w.left row next
  here {row} {next} h (a_row e l m) =
      let x = reads h in
      let s = got_same (sym x.read ∙ e) in
      let p : Proper label (w.done ++ (row_of row ∷ x.later)) = subst (λ (z : rule.Row). Proper label (w.done ++ (z ∷ x.later))) s.0 x.proper in
      record {
        later = x.later;
        is = x.is ∙ ap (λ (z : rule.Row). z ∷ x.later) s.0;
        rest = sym s.1;
        further = m;
        holds = each_holds w.done (row_of row) x.later (proper.0 p).spans;
        room = λ k t f. room_to_open w.done x.later k t (subst (λ (z : rule.Row). Proper label (w.done ++ (z ∷ x.later))) f p);
      }

  no_row_left : at < length lent → Decodes lent at None → ⊥
  no_row_left h (no_row e) = nothing_got (sym e ∙ (reads h).read)

module _ {label lent before out : List ℕ} {a : Around} {b : Blocks} {at n : ℕ} (s : Between label lent before out a b at n) where
  abbrev w : Walking label lent before out a.prior b at n
  w = s.walking

  pub ready : (a.depth ≤ deepest) × (length label ≤ longest)
  ready = (omega (arith, s.depth, w.deep), w.short)

  pub bounded : b.depth ≤ deepest
  bounded = w.deep

  -- no row is missing from a proper table
  pub missing : {g : Option (Row × ℕ)} → at < length lent → Decodes lent at g → g ≡ None → PassWrites label lent before out n
  missing h v f = absurd (no_row_left w h (subst (Decodes lent at) f v))

  module _ {g : Option (Row × ℕ)} {row : Row} {next : ℕ} {p : List ℕ} {k m : ℕ} (h : at < length lent) (v : Decodes lent at g) (f : g ≡ Some (row, next)) (ek : k ≡ min n (length out))
      (put : RowPut label (prior_of a.prior) a.depth (map fold (part label a.from a.upto)) row (mid_of k (length out - k) out) p m) where
    abbrev D : Decodes lent at (Some (row, next))
    D = subst (Decodes lent at) f v

    abbrev H : Here label lent w.done w.left row next
    H = here w h D

    abbrev S : Sense
    S = sense label (row_of row)

    after_row : Puts (so_far (meaning label (w.done ++ (row_of row ∷ [])))) before (put_mid k (length out - k) out p) (n + m)
    after_row =
        let u : Puts (writes (prior_of a.prior) (opens_of label (blocks_of b)) S) (mid_of k (length out - k) out) p m = put.puts (opens_of label (blocks_of b)) (enclosed label b a s.depth s.start s.end) in
        let e : writes (prior_of a.prior) (opens_of label (blocks_of b)) S ≡ writes (leaves start (meaning label w.done)) (open_after rule.outside (meaning label w.done)) S =
        ap₂ (λ (u : Prior) (o : rule.Opens). writes u o S) w.prior w.blocks in
        let i : so_far (meaning label w.done) ++ writes (leaves start (meaning label w.done)) (open_after rule.outside (meaning label w.done)) S ≡ so_far (meaning label (w.done ++ (row_of row ∷ []))) =
        sym (row_more (meaning label w.done) S) ∙ ap so_far (sym (means_append label w.done (row_of row ∷ []))) in
        same_part i (onward w.puts ek (same_part e u))

    -- too long already
    pub over : longest < n + m → PassWrites label lent before (put_mid k (length out - k) out p) (n + m)
    over z =
        let e : meaning label (w.done ++ (row_of row ∷ [])) ≡ meaning label w.done ++ (S ∷ []) = means_append label w.done (row_of row ∷ []) in
        let i : meaning label w.rows ≡ meaning label w.done ++ (S ∷ meaning label H.later) =
        ap (meaning label) (w.split ∙ ap (λ (l : List rule.Row). w.done ++ l) H.is) ∙ means_append label w.done (row_of row ∷ H.later) in
        let t = to_the_bound (meaning label w.done) S (meaning label H.later) (omega (arith, w.puts.count, w.small)) (omega (arith, after_row.count, ap (λ (l : List Sense). length (so_far l)) e)) in
        record { rows = w.rows; proper = w.ruled; written = same_part (ap so_far e ∙ t ∙ ap (passing 0 start rule.outside) (sym i)) after_row }

    room_for : RoomToOpen b row
    room_for = record {
      room = λ j u v e.
          let t : row_of row ≡ rule.opened (kind_of j) (as_span u v) = ap row_of e in
          let d = H.room (kind_of j) (as_span u v) t in
          let c : rule.depth (opens_of label (blocks_of b)) ≡ b.depth = deep_as label (blocks_of b) ∙ counted b.starts b.ends b.kinds b.depth in
          let i : Held _ label (as_span u v) = subst (Holds label) t H.holds in
          (omega (arith, ap rule.depth w.blocks), omega (arith, i.ordered, i.inside, w.short), omega (arith, i.inside, w.short));
    }

    again : {q' : printing.Prior} {b' : Blocks} → n + m ≤ longest → PriorAfter row (prior_of q') → BlocksAfter b row b' → Walking label lent before (put_mid k (length out - k) out p) q' b' next (n + m)
    again z l t = record {
      short = w.short;
      rows = w.rows;
      ruled = w.ruled;
      done = w.done ++ (row_of row ∷ []);
      left = H.later;
      split = w.split ∙ ap (λ (i : List rule.Row). w.done ++ i) H.is ∙ sym (append_assoc w.done (row_of row ∷ []) H.later);
      rest = H.rest;
      within = H.further;
      puts = after_row;
      same = long after_row;
      small = z;
      prior = l.is label ∙ sym (ap (leaves start) (means_append label w.done (row_of row ∷ [])) ∙ leaves_last start (meaning label w.done) S);
      blocks = ap (opens_of label) (t.is room_for) ∙ opens_as label (blocks_of b) row ∙ ap (λ (o : rule.Opens). after o S) w.blocks
          ∙ sym (ap (open_after rule.outside) (means_append label w.done (row_of row ∷ [])) ∙ open_last rule.outside (meaning label w.done) S);
      deep = t.deep;
    }

    -- the open blocks stay, or are others
    pub again_plain : {q' : printing.Prior} {r : Bool} → n + m ≤ longest → PriorAfter row (prior_of q') → Nests row r → not r ≡ true → Between label lent before (put_mid k (length out - k) out p) (record { prior = q'; depth = a.depth; from = a.from; upto = a.upto }) b next (n + m)
    again_plain z l t e = record { walking = again z l (not_nested w.deep t e); depth = s.depth; start = s.start; end = s.end }

    pub again_nested : {q' : printing.Prior} {b' : Blocks} {x' y' : ℕ} → n + m ≤ longest → PriorAfter row (prior_of q') → BlocksAfter b row b' → x' ≡ start_of (blocks_of b') → y' ≡ end_of (blocks_of b') →
        Between label lent before (put_mid k (length out - k) out p) (record { prior = q'; depth = b'.depth; from = x'; upto = y' }) b' next (n + m)
    again_nested z l t e i = record { walking = again z l t; depth = refl; start = e; end = i }

    pub nearer : length lent - next < length lent - at
    nearer = omega (arith, (row_there v f).further)

-- all rows are written: the last line's end
pub ends : {label lent before out : List ℕ} {a : Around} {b : Blocks} {at n : ℕ} → Between label lent before out a b at n → length lent ≤ at → {p : List ℕ} {k m : ℕ} → k ≡ min n (length out) →
    Puts (13 ∷ 10 ∷ []) (mid_of k (length out - k) out) p m → PassWrites label lent before (put_mid k (length out - k) out p) (n + m)
ends {label} {lent} {before} {out} {n = n} s h {p} {k} {m} ek put =
    let w = s.walking in
    let e : w.left ≡ [] = no_bytes w.left (sym w.rest ∙ drop_of_length-le lent h) in
    let d : w.rows ≡ w.done = w.split ∙ ap (λ (i : List rule.Row). w.done ++ i) e ∙ append-nil w.done in
    let f : so_far (meaning label w.done) ++ (13 ∷ 10 ∷ []) ≡ passing 0 start rule.outside (meaning label w.rows) =
    to_the_end (meaning label w.done) (omega (arith, w.puts.count, w.small)) ∙ ap (λ (i : List rule.Row). passing 0 start rule.outside (meaning label i)) (sym d) in
    record { rows = w.rows; proper = w.ruled; written = same_part f (onward w.puts ek put) }
