-- A block's passes until no star's row changes. Assumes nothing.
use Rattle.std.proofs.Common.{◌≡◌, ℕ, zero, suc, ◌+◌, ◌<◌, ◌≤◌, Bool, false, List, sym, refl, ◌∙◌, subst, subst₂, arith}
use Rattle.block.specs.Calls.{none_row, all_row, or_row}
use Rattle.theory.specs.Pattern.{Pattern, Streams, leaf, many, plus, eps, seq, alt, opt, star, head, tail}
use Rattle.theory.specs.Block.{Carry, Regs, Ops, bits, out, carry, regs, blank, passes, Has}
use Rattle.theory.specs.Passes.{stars}
use Rattle.theory.specs.Whole.{Ending, Carried}
use Rattle.theory.proofs.Whole.{next_block}
use Rattle.program.specs.Machine.{Machine, begun, repeated}
use Rattle.program.specs.Numbered.{carries_of, rows_of, Classed}
use Rattle.program.specs.Compile.{feeds_at, depth, program, stars_at, Ruled, ProgramBlock}
use Rattle.program.proofs.Puts.{or_row_again}
use Rattle.program.proofs.Passing.{Quiet, Passed, Laid, passed, ruled_same}

rows_blank : (F : Pattern) (s : ℕ) (e : List Bool) (f : ℕ → List Bool) → ((i : ℕ) → s ≤ i → i < s + stars F → f i ≡ e) → rows_of F s f ≡ blank e F
rows_blank (leaf c) s e f h = refl
rows_blank (many c) s e f h = refl
rows_blank (plus c) s e f h = refl
rows_blank eps s e f h = refl
rows_blank (seq F G) s e f h =
    λ j. (rows_blank F s e f (λ i l u. h i l (omega arith)) j, rows_blank G (s + stars F) e f (λ i l u. h i (omega arith) (omega arith)) j)
rows_blank (alt F G) s e f h =
    λ j. (rows_blank F s e f (λ i l u. h i l (omega arith)) j, rows_blank G (s + stars F) e f (λ i l u. h i (omega arith) (omega arith)) j)
rows_blank (opt F) s e f h = rows_blank F s e f h
rows_blank (star F) s e f h =
    λ j. (h s (omega arith) (omega arith) j, rows_blank F (suc s) e f (λ i l u. h i (omega arith) (omega arith)) j)
rows_blank head s e f h = refl
rows_blank tail s e f h = refl

-- A quiet pass has left the registers as the next would, and the next has the same marks and carries.
module _ (t : Streams) (b w : ℕ) (ins : ℕ → Bool) where
  abbrev O : Ops (List Bool)
  O = bits t b w

  pub record Again (F : Pattern) (k : Carry F) (r : Regs (List Bool) F) (m : List Bool) : Type 0 where
    pub registers : regs O F k (regs O F k r m) m ≡ regs O F k r m
    pub marks : out O F k (regs O F k r m) m ≡ out O F k r m
    pub carries : carry O F k (regs O F k r m) m ≡ carry O F k r m

  pub again : (F : Pattern) (k : Carry F) (r : Regs (List Bool) F) (m : List Bool) → Quiet t b w ins F k r m → Again F k r m
  again (leaf c) k r m q = record { registers = refl; marks = refl; carries = refl }
  again (many c) k r m q = record { registers = refl; marks = refl; carries = refl }
  again (plus c) k r m q = record { registers = refl; marks = refl; carries = refl }
  again eps k r m q = record { registers = refl; marks = refl; carries = refl }
  again (seq F G) k r m q =
      let A = again F k.0 r.0 m q.0 in
      let B = again G k.1 r.1 (out O F k.0 r.0 m) q.1 in
      let g : Regs (List Bool) G = regs O G k.1 r.1 (out O F k.0 r.0 m) in
      record {
        registers = λ j. (A.registers j, ((λ i. regs O G k.1 g (A.marks i)) ∙ B.registers) j);
        marks = (λ i. out O G k.1 g (A.marks i)) ∙ B.marks;
        carries = λ j. (A.carries j, ((λ i. carry O G k.1 g (A.marks i)) ∙ B.carries) j);
      }
  again (alt F G) k r m q =
      let A = again F k.0 r.0 m q.0 in
      let B = again G k.1 r.1 m q.1 in
      record {
        registers = λ j. (A.registers j, B.registers j);
        marks = λ j. or_row w (A.marks j) (B.marks j);
        carries = λ j. (A.carries j, B.carries j);
      }
  again (opt F) k r m q =
      let A = again F k r m q in
      record { registers = A.registers; marks = λ j. or_row w m (A.marks j); carries = A.carries }
  again (star F) k r m q =
      let B : List Bool = or_row w r.0 m in
      let A = again F k r.1 B q.1 in
      let g : Regs (List Bool) F = regs O F k r.1 B in
      let e : or_row w (out O (star F) k r m) m ≡ B = (λ j. or_row w (q.0 j) m) ∙ or_row_again w r.0 m in
      let f : out O F k g (or_row w (out O (star F) k r m) m) ≡ out O F k r.1 B = (λ j. out O F k g (e j)) ∙ A.marks in
      record {
        registers = λ j. (or_row w (e j) (f j), ((λ i. regs O F k g (e i)) ∙ A.registers) j);
        marks = λ j. or_row w (e j) (f j);
        carries = (λ i. carry O F k g (e i)) ∙ A.carries;
      }
  again head k r m q = record { registers = refl; marks = refl; carries = refl }
  again tail k r m q = record { registers = refl; marks = refl; carries = refl }

module _ (t : Streams) (b w n : ℕ) (F : Pattern) (classed : Classed n F) (dp : depth F ≤ feeds_at) (ins : ℕ → Bool) (m : List Bool)
    (x : Machine) (R : Ruled t b w n x.rows)
    (Z : (i : ℕ) → stars_at n ≤ i → i < stars_at n + stars F → x.rows i ≡ none_row w) where
  abbrev s : ℕ
  s = stars_at n

  abbrev K : Carry F
  K = carries_of F 0 ins

  abbrev o : Ops (List Bool)
  o = bits t b w

  -- after the pass j, and before it
  abbrev y : ℕ → Machine
  y j = repeated w ins (program n F) m x j

  abbrev start : ℕ → Machine
  start zero = begun m x
  start (suc j) = begun m (y j)

  abbrev Went : ℕ → Type 0
  Went j = Passed t b w ins F 0 s (s + stars F) 0 (start j) (y j)

  laid : Laid t b w ins n F s (s + stars F)
  laid = record { classed = classed; behind = omega arith; within = omega arith }

  went : (j : ℕ) → ((i : ℕ) → feeds_at ≤ i → i < s → (start j).rows i ≡ x.rows i) → Went j
  went zero low = passed t b w ins n F 0 s (s + stars F) 0 laid (omega arith) (start zero) R
  went (suc j) low =
      passed t b w ins n F 0 s (s + stars F) 0 laid (omega arith) (start (suc j))
      (ruled_same t b w ins n x.rows (start (suc j)).rows low R)

  low : (j i : ℕ) → feeds_at ≤ i → i < s → (start j).rows i ≡ x.rows i
  low zero i l u = refl
  low (suc j) i l u = (went j (low j)).ran.low i l u ∙ low j i l u

  did : (j : ℕ) → Went j
  did j = went j (low j)

  marked : (j : ℕ) → (start j).marks ≡ m
  marked zero = refl
  marked (suc j) = refl

  tree : (j : ℕ) → rows_of F s (start j).rows ≡ passes t b w F K m j
  tree zero = rows_blank F s (none_row w) x.rows Z
  tree (suc j) = (did j).ran.registers ∙ (λ i. regs o F K (tree j i) (marked j i))

  pub marks : (j : ℕ) → (y j).marks ≡ out o F K (passes t b w F K m j) m
  marks j = (did j).marks ∙ (λ i. out o F K (tree j i) (marked j i))

  pub carries : (j : ℕ) → carries_of F 0 (y j).carries ≡ carry o F K (passes t b w F K m j) m
  carries j = (did j).ran.carries ∙ (λ i. carry o F K (tree j i) (marked j i))

  pub quiet : (j : ℕ) → (y j).changed ≡ false → Quiet t b w ins F K (passes t b w F K m j) m
  quiet j e = subst₂ (Quiet t b w ins F K) (tree j) (marked j) ((did j).ran.quiet e)

pub program_block : ProgramBlock
program_block t b w pos n F classed dp ins stands x R Z j e =
    let m : List Bool = all_row w in
    let k : Carry F = carries_of F 0 ins in
    let A = again t b w ins F k (passes t b w F k m j) m (quiet t b w n F classed dp ins m x R Z j e) in
    let next = next_block t b w pos F k (suc j) stands A.registers in (
      λ p l u.
          subst (λ r. (Has b w r p → Ending t F p) × (Ending t F p → Has b w r p))
          (A.marks ∙ sym (marks t b w n F classed dp ins m x R Z j)) (next.0 p l u),
      subst (Carried t (b + w) F) (A.carries ∙ sym (carries t b w n F classed dp ins m x R Z j)) next.1,
    )
