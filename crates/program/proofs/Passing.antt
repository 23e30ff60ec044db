-- The steps do what the pass over the pattern does, by induction over the pattern. Assumes nothing.
use Rattle.std.proofs.Common.{◌≡◌, ℕ, suc, ◌+◌, ◌<◌, ◌≤◌, Bool, true, false, not, ◌||◌, ◌⊎◌, List, [], ◌∷◌, ◌++◌, sym, refl, ap, ◌∙◌, subst, subst₂, inl, inr, arith}
use Rattle.std.proofs.lemmas.Bool.{false≢true}
use Rattle.block.specs.Calls.{or_row, and_row}
use Rattle.stream.specs.MatchStar.{star_row, star_out}
use Rattle.theory.specs.Pattern.{Pattern, Streams, leaf, many, plus, eps, seq, alt, opt, star, head, tail}
use Rattle.theory.specs.Block.{Carry, Regs, Ops, bits, class_row, out, carry, regs, step_row, step_out}
use Rattle.theory.specs.Passes.{stars}
use Rattle.program.specs.declared.Step.{Step}
use Rattle.program.specs.declared.Step.TheVariants.{Take, Run, More, Keep, Save, Load, Or, Grow}
use Rattle.program.specs.Machine.{Machine, put, same, does, runs}
use Rattle.program.specs.Numbered.{leaves, carries_of, rows_of, Classed}
use Rattle.program.specs.Compile.{feeds_at, starts_at, classes_at, unions, unions_into, depth, depth_into, steps, into, Ruled}
use Rattle.program.proofs.Puts.{put_same, put_other, same_is, or_row_assoc}

pub rows_same : (F : Pattern) (s : ℕ) (f g : ℕ → List Bool) → ((i : ℕ) → s ≤ i → i < s + stars F → f i ≡ g i) → rows_of F s f ≡ rows_of F s g
rows_same (leaf c) s f g h = refl
rows_same (many c) s f g h = refl
rows_same (plus c) s f g h = refl
rows_same eps s f g h = refl
rows_same (seq F G) s f g h =
    λ j. (rows_same F s f g (λ i l u. h i l (omega arith)) j, rows_same G (s + stars F) f g (λ i l u. h i (omega arith) (omega arith)) j)
rows_same (alt F G) s f g h =
    λ j. (rows_same F s f g (λ i l u. h i l (omega arith)) j, rows_same G (s + stars F) f g (λ i l u. h i (omega arith) (omega arith)) j)
rows_same (opt F) s f g h = rows_same F s f g h
rows_same (star F) s f g h =
    λ j. (h s (omega arith) (omega arith) j, rows_same F (suc s) f g (λ i l u. h i (omega arith) (omega arith)) j)
rows_same head s f g h = refl
rows_same tail s f g h = refl

pub carries_same : (F : Pattern) (k : ℕ) (f g : ℕ → Bool) → ((i : ℕ) → k ≤ i → i < k + leaves F → f i ≡ g i) → carries_of F k f ≡ carries_of F k g
carries_same (leaf c) k f g h = h k (omega arith) (omega arith)
carries_same (many c) k f g h = h k (omega arith) (omega arith)
carries_same (plus c) k f g h = h k (omega arith) (omega arith)
carries_same eps k f g h = refl
carries_same (seq F G) k f g h =
    λ j. (carries_same F k f g (λ i l u. h i l (omega arith)) j, carries_same G (k + leaves F) f g (λ i l u. h i (omega arith) (omega arith)) j)
carries_same (alt F G) k f g h =
    λ j. (carries_same F k f g (λ i l u. h i l (omega arith)) j, carries_same G (k + leaves F) f g (λ i l u. h i (omega arith) (omega arith)) j)
carries_same (opt F) k f g h = carries_same F k f g h
carries_same (star F) k f g h = carries_same F k f g h
carries_same head k f g h = refl
carries_same tail k f g h = refl

unflagged : (b c : Bool) → (b ≡ true → c ≡ true) → c ≡ false → b ≡ false
unflagged true c h e = sym (h refl) ∙ e
unflagged false c h e = refl

or_false : (b c : Bool) → (b || not c) ≡ false → (b ≡ false) × (c ≡ true)
or_false true c e = absurd (false≢true (sym e))
or_false false true e = (refl, refl)
or_false false false e = (refl, sym e)

or_true : (b c : Bool) → b ≡ true → (b || c) ≡ true
or_true true c e = refl
or_true false c e = absurd (false≢true e)

module _ (t : Streams) (b w : ℕ) (ins : ℕ → Bool) where
  abbrev o : Ops (List Bool)
  o = bits t b w

  abbrev K : (F : Pattern) → ℕ → Carry F
  K F k = carries_of F k ins

  -- a pass in which no star adds to its row and the marks that came to it
  abbrev pub Quiet : (F : Pattern) → Carry F → Regs (List Bool) F → List Bool → Type 0
  Quiet (leaf c) k r m = Unit {0}
  Quiet (many c) k r m = Unit {0}
  Quiet (plus c) k r m = Unit {0}
  Quiet eps k r m = Unit {0}
  Quiet (seq F G) k r m = Quiet F k.0 r.0 m × Quiet G k.1 r.1 (out o F k.0 r.0 m)
  Quiet (alt F G) k r m = Quiet F k.0 r.0 m × Quiet G k.1 r.1 m
  Quiet (opt F) k r m = Quiet F k r m
  Quiet (star F) k r m = (out o (star F) k r m ≡ or_row w r.0 m) × Quiet F k r.1 (or_row w r.0 m)
  Quiet head k r m = Unit {0}
  Quiet tail k r m = Unit {0}

  -- what a run from x to y has done of the pass over F; it leaves the rows before its own that P has
  pub record Ran (F : Pattern) (k s a d : ℕ) (P : ℕ → Type 0) (x y : Machine) : Type 0 where
    pub registers : rows_of F s y.rows ≡ regs o F (K F k) (rows_of F s x.rows) x.marks
    pub carries : carries_of F k y.carries ≡ carry o F (K F k) (rows_of F s x.rows) x.marks
    pub deep : (i : ℕ) → i < d → y.rows i ≡ x.rows i
    pub low : (i : ℕ) → feeds_at ≤ i → i < s → y.rows i ≡ x.rows i
    pub high : (i : ℕ) → s + stars F ≤ i → i < a → P i → y.rows i ≡ x.rows i
    pub before : (i : ℕ) → i < k → y.carries i ≡ x.carries i
    pub behind : (i : ℕ) → k + leaves F ≤ i → y.carries i ≡ x.carries i
    pub flagged : x.changed ≡ true → y.changed ≡ true
    pub quiet : y.changed ≡ false → Quiet F (K F k) (rows_of F s x.rows) x.marks

  abbrev All : ℕ → Type 0
  All i = Unit {0}

  abbrev Not : ℕ → ℕ → Type 0
  Not r i = i ≡ r → ⊥

  abbrev Marks : Pattern → ℕ → ℕ → Machine → List Bool
  Marks F k s x = out o F (K F k) (rows_of F s x.rows) x.marks

  -- the marks are those behind F, or are added to the row r
  pub record Passed (F : Pattern) (k s a d : ℕ) (x y : Machine) : Type 0 where
    pub ran : Ran F k s a d All x y
    pub marks : y.marks ≡ Marks F k s x

  pub record Added (F : Pattern) (k s a d r : ℕ) (x y : Machine) : Type 0 where
    pub ran : Ran F k s a d (Not r) x y
    pub row : y.rows r ≡ or_row w (x.rows r) (Marks F k s x)

  -- a row of the star rows of F's is none of the rows from its end on
  rows_put : (F : Pattern) (s r : ℕ) (f : ℕ → List Bool) (v : List Bool) → s + stars F ≤ r → rows_of F s (put f r v) ≡ rows_of F s f
  rows_put F s r f v l = rows_same F s (put f r v) f (λ i h u. put_other f r v i (λ e. omega arith))

  -- and none of those that keep marks
  rows_kept : (F : Pattern) (s d : ℕ) (f : ℕ → List Bool) (v : List Bool) → d < s → rows_of F s (put f d v) ≡ rows_of F s f
  rows_kept F s d f v l = rows_same F s (put f d v) f (λ i h u. put_other f d v i (λ e. omega arith))

  -- marks added to a row that gathers
  gathered : (F : Pattern) (k s a d r : ℕ) (x y : Machine) → d ≤ feeds_at → feeds_at ≤ s → s + stars F ≤ r → r < a
      → Passed F k s a d x y → Added F k s a d r x (does w ins (Or r) y)
  gathered F k s a d r x y df fs l u A =
      let v : List Bool = or_row w (y.rows r) y.marks in
      let R = A.ran in
      let same_rows : rows_of F s (put y.rows r v) ≡ rows_of F s y.rows = rows_put F s r y.rows v l in
      record {
        ran =
            record {
              registers = same_rows ∙ R.registers;
              carries = R.carries;
              deep = λ i h. put_other y.rows r v i (λ e. omega arith) ∙ R.deep i h;
              low = λ i h g. put_other y.rows r v i (λ e. omega arith) ∙ R.low i h g;
              high = λ i h g p. put_other y.rows r v i p ∙ R.high i h g tt;
              before = R.before;
              behind = R.behind;
              flagged = R.flagged;
              quiet = R.quiet;
            };
        row = put_same y.rows r v ∙ (λ j. or_row w (R.high r l u tt j) (A.marks j));
      }

  -- one part and then another
  module _ (F G : Pattern) (k s a d : ℕ) (P : ℕ → Type 0) (x m y : Machine) (fs : feeds_at ≤ s) (sa : s + (stars F + stars G) ≤ a)
      (A : Passed F k s a d x m) (B : Ran G (k + leaves F) (s + stars F) (a + unions F) d P m y) where
    first_rows : rows_of G (s + stars F) m.rows ≡ rows_of G (s + stars F) x.rows
    first_rows = rows_same G (s + stars F) m.rows x.rows (λ i l u. A.ran.high i l (omega arith) tt)

    seq_marks : Marks G (k + leaves F) (s + stars F) m ≡ Marks (seq F G) k s x
    seq_marks = λ j. out o G (K G (k + leaves F)) (first_rows j) (A.marks j)

    seq_ran : Ran (seq F G) k s a d P x y
    seq_ran =
        let R = A.ran in
        let rf : rows_of F s y.rows ≡ rows_of F s m.rows =
        rows_same F s y.rows m.rows (λ i l u. B.low i (omega arith) u) in
        let cf : carries_of F k y.carries ≡ carries_of F k m.carries =
        carries_same F k y.carries m.carries (λ i l u. B.before i u) in
        record {
          registers =
              λ j. (
                (rf ∙ R.registers) j,
                (B.registers ∙ (λ i. regs o G (K G (k + leaves F)) (first_rows i) (A.marks i))) j,
              );
          carries =
              λ j. (
                (cf ∙ R.carries) j,
                (B.carries ∙ (λ i. carry o G (K G (k + leaves F)) (first_rows i) (A.marks i))) j,
              );
          deep = λ i l. B.deep i l ∙ R.deep i l;
          low = λ i l u. B.low i l (omega arith) ∙ R.low i l u;
          high = λ i l u p. B.high i (omega arith) (omega arith) p ∙ R.high i (omega arith) u tt;
          before = λ i l. B.before i (omega arith) ∙ R.before i l;
          behind = λ i l. B.behind i (omega arith) ∙ R.behind i (omega arith);
          flagged = λ e. B.flagged (R.flagged e);
          quiet =
              λ e. (
                R.quiet (unflagged m.changed y.changed B.flagged e),
                subst₂ (Quiet G (K G (k + leaves F))) first_rows A.marks (B.quiet e),
              );
        }

  -- Two parts from the same marks: these are kept in the row d while the first part runs from x0 to x1, and x2 begins the second with
  -- them and with the rows of x1 before a.
  module _ (F G : Pattern) (k s a d : ℕ) (P Q : ℕ → Type 0) (f g : ℕ) (x x1 x2 y : Machine) (df : d < feeds_at) (fs : feeds_at ≤ s)
      (sa : s + (stars F + stars G) ≤ a) (af : a ≤ f) (ag : a ≤ g)
      (free : (i : ℕ) → i < s + (stars F + stars G) → P i) (fromP : (i : ℕ) → i < a → Q i → P i)
      (again : x2.marks ≡ x.marks) (rows : (i : ℕ) → i < a → x2.rows i ≡ x1.rows i)
      (outs : x2.carries ≡ x1.carries) (flag : x2.changed ≡ x1.changed) where
    abbrev x0 : Machine
    x0 = does w ins (Save d) x

    at0 : (i : ℕ) → (i ≡ d → ⊥) → x0.rows i ≡ x.rows i
    at0 i h = put_other x.rows d x.marks i h

    module _ (A : Ran F k s f (suc d) P x0 x1) (B : Ran G (k + leaves F) (s + stars F) g d Q x2 y) where
      left_rows : rows_of F s x0.rows ≡ rows_of F s x.rows
      left_rows = rows_kept F s d x.rows x.marks (omega arith)

      right_rows : rows_of G (s + stars F) x2.rows ≡ rows_of G (s + stars F) x.rows
      right_rows =
          rows_same G (s + stars F) x2.rows x.rows
          (λ i l u. rows i (omega arith) ∙ (A.high i l (omega arith) (free i (omega arith)) ∙ at0 i (λ e. omega arith)))

      left_marks : Marks F k s x0 ≡ Marks F k s x
      left_marks = λ j. out o F (K F k) (left_rows j) x.marks

      right_marks : Marks G (k + leaves F) (s + stars F) x2 ≡ Marks G (k + leaves F) (s + stars F) x
      right_marks = λ j. out o G (K G (k + leaves F)) (right_rows j) (again j)

      alt_ran : Ran (alt F G) k s a d Q x y
      alt_ran =
          let rf : rows_of F s y.rows ≡ rows_of F s x1.rows =
          rows_same F s y.rows x1.rows (λ i l u. B.low i (omega arith) u ∙ rows i (omega arith)) in
          let cf : carries_of F k y.carries ≡ carries_of F k x1.carries =
          carries_same F k y.carries x1.carries (λ i l u. B.before i u ∙ ap (λ (h : ℕ → Bool). h i) outs) in
          record {
            registers =
                λ j. (
                  (rf ∙ (A.registers ∙ (λ i. regs o F (K F k) (left_rows i) x.marks))) j,
                  (B.registers ∙ (λ i. regs o G (K G (k + leaves F)) (right_rows i) (again i))) j,
                );
            carries =
                λ j. (
                  (cf ∙ (A.carries ∙ (λ i. carry o F (K F k) (left_rows i) x.marks))) j,
                  (B.carries ∙ (λ i. carry o G (K G (k + leaves F)) (right_rows i) (again i))) j,
                );
            deep = λ i l. B.deep i l ∙ (rows i (omega arith) ∙ (A.deep i (omega arith) ∙ at0 i (λ e. omega arith)));
            low = λ i l u. B.low i l (omega arith) ∙ (rows i (omega arith) ∙ (A.low i l u ∙ at0 i (λ e. omega arith)));
            high =
                λ i l u p.
                B.high i (omega arith) (omega arith) p
                ∙ (rows i u ∙ (A.high i (omega arith) (omega arith) (fromP i u p) ∙ at0 i (λ e. omega arith)));
            before = λ i l. B.before i (omega arith) ∙ (ap (λ (h : ℕ → Bool). h i) outs ∙ A.before i l);
            behind = λ i l. B.behind i (omega arith) ∙ (ap (λ (h : ℕ → Bool). h i) outs ∙ A.behind i (omega arith));
            flagged = λ e. B.flagged (flag ∙ A.flagged e);
            quiet =
                λ e. (
                  subst (λ r. Quiet F (K F k) r x.marks) left_rows (A.quiet (sym flag ∙ unflagged x2.changed y.changed B.flagged e)),
                  subst₂ (Quiet G (K G (k + leaves F))) right_rows again (B.quiet e),
                );
          }

  -- F, or nothing: the row r has changed before F runs from x0 to y
  opt_ran : (F : Pattern) (k s a f d r : ℕ) (P Q : ℕ → Type 0) (x : Machine) (v : List Bool) (y : Machine)
      → d ≤ feeds_at → feeds_at ≤ s → s + stars F ≤ r → a ≤ f → ((i : ℕ) → i < a → Q i → (i ≡ r → ⊥) × P i)
      → Ran F k s f d P (record { marks = x.marks; rows = put x.rows r v; carries = x.carries; changed = x.changed }) y
      → Ran (opt F) k s a d Q x y
  opt_ran F k s a f d r P Q x v y df fs l af free A =
      let e : rows_of F s (put x.rows r v) ≡ rows_of F s x.rows = rows_put F s r x.rows v l in
      record {
        registers = A.registers ∙ (λ j. regs o F (K F k) (e j) x.marks);
        carries = A.carries ∙ (λ j. carry o F (K F k) (e j) x.marks);
        deep = λ i h. A.deep i h ∙ put_other x.rows r v i (λ g. omega arith);
        low = λ i h u. A.low i h u ∙ put_other x.rows r v i (λ g. omega arith);
        high = λ i h u q. let z = free i u q in A.high i h (omega arith) z.1 ∙ put_other x.rows r v i z.0;
        before = A.before;
        behind = A.behind;
        flagged = A.flagged;
        quiet = λ g. subst (λ z. Quiet F (K F k) z x.marks) e (A.quiet g);
      }

  star_passed : (F : Pattern) (k s a d : ℕ) (x x1 : Machine) → d ≤ feeds_at → feeds_at ≤ s
      → Passed F k (suc s) a d (does w ins (Load s) (does w ins (Or s) x)) x1
      → Passed (star F) k s a d x (does w ins (Load s) (does w ins (Grow s) x1))
  star_passed F k s a d x x1 df fs P =
      let A = P.ran in
      let x0 : Machine = does w ins (Load s) (does w ins (Or s) x) in
      let y : Machine = does w ins (Load s) (does w ins (Grow s) x1) in
      let v : List Bool = or_row w (x.rows s) x.marks in
      let u : List Bool = or_row w (x1.rows s) x1.marks in
      let at0 : (i : ℕ) → (i ≡ s → ⊥) → x0.rows i ≡ x.rows i = put_other x.rows s v in
      let at1 : (i : ℕ) → (i ≡ s → ⊥) → y.rows i ≡ x1.rows i = put_other x1.rows s u in
      let entered : x0.marks ≡ v = put_same x.rows s v in
      let rf : rows_of F (suc s) x0.rows ≡ rows_of F (suc s) x.rows = rows_kept F (suc s) s x.rows v (omega arith) in
      let rf' : rows_of F (suc s) y.rows ≡ rows_of F (suc s) x1.rows = rows_kept F (suc s) s x1.rows u (omega arith) in
      let row : x1.rows s ≡ v = A.low s fs (omega arith) ∙ put_same x.rows s v in
      let inner : x1.marks ≡ out o F (K F k) (rows_of F (suc s) x.rows) v = P.marks ∙ (λ j. out o F (K F k) (rf j) (entered j)) in
      let sum : u ≡ Marks (star F) k s x = λ j. or_row w (row j) (inner j) in
      let closed : y.rows s ≡ Marks (star F) k s x = put_same x1.rows s u ∙ sum in
      record {
        ran =
            record {
              registers = λ j. (closed j, (rf' ∙ (A.registers ∙ (λ i. regs o F (K F k) (rf i) (entered i)))) j);
              carries = A.carries ∙ (λ i. carry o F (K F k) (rf i) (entered i));
              deep = λ i l. at1 i (λ e. omega arith) ∙ (A.deep i l ∙ at0 i (λ e. omega arith));
              low = λ i l h. at1 i (λ e. omega arith) ∙ (A.low i l (omega arith) ∙ at0 i (λ e. omega arith));
              high = λ i l h p. at1 i (λ e. omega arith) ∙ (A.high i (omega arith) h tt ∙ at0 i (λ e. omega arith));
              before = A.before;
              behind = A.behind;
              flagged = λ e. or_true x1.changed (not (same u (x1.rows s))) (A.flagged e);
              quiet =
                  λ e.
                  let p = or_false x1.changed (same u (x1.rows s)) e in (
                    sym sum ∙ (same_is u (x1.rows s) p.1 ∙ row),
                    subst₂ (Quiet F (K F k)) rf entered (A.quiet p.0),
                  );
            };
        marks = closed;
      }

  -- a step that writes no row
  still_ran : (F : Pattern) (k s a d : ℕ) (x : Machine) (m : List Bool)
      → rows_of F s x.rows ≡ regs o F (K F k) (rows_of F s x.rows) x.marks
      → carries_of F k x.carries ≡ carry o F (K F k) (rows_of F s x.rows) x.marks
      → Quiet F (K F k) (rows_of F s x.rows) x.marks
      → Ran F k s a d All x (record { marks = m; rows = x.rows; carries = x.carries; changed = x.changed })
  still_ran F k s a d x m e c q =
      record {
        registers = e;
        carries = c;
        deep = λ i l. refl;
        low = λ i l u. refl;
        high = λ i l u p. refl;
        before = λ i l. refl;
        behind = λ i l. refl;
        flagged = λ h. h;
        quiet = λ h. q;
      }

  pub runs_append : (p q : List Step) (x : Machine) → runs w ins (p ++ q) x ≡ runs w ins q (runs w ins p x)
  runs_append [] q x = refl
  runs_append (s ∷ p) q x = runs_append p q (does w ins s x)

  module _ (n : ℕ) where
    pub ruled_same : (f g : ℕ → List Bool) → ((i : ℕ) → feeds_at ≤ i → i < classes_at + n → g i ≡ f i) → Ruled t b w n f → Ruled t b w n g
    ruled_same f g h R =
        record {
          classes = λ c l. h (classes_at + c) (omega arith) (omega arith) ∙ R.classes c l;
          starts = h starts_at (omega arith) (omega arith) ∙ R.starts;
          feeds = h feeds_at (omega arith) (omega arith) ∙ R.feeds;
        }

    leaf_passed : (c : ℕ) → c < n → (k s a d : ℕ) (x : Machine) → Ruled t b w n x.rows
        → Passed (leaf c) k s a d x (does w ins (Take (classes_at + c) k) x)
    leaf_passed c h k s a d x R =
        let e : x.rows (classes_at + c) ≡ class_row t b w c = R.classes c h in
        let v : Bool = step_out w (x.rows (classes_at + c)) x.marks in
        record {
          ran =
              record {
                registers = refl;
                carries = put_same x.carries k v ∙ ap (λ r. step_out w r x.marks) e;
                deep = λ i l. refl;
                low = λ i l u. refl;
                high = λ i l u p. refl;
                before = λ i l. put_other x.carries k v i (λ g. omega arith);
                behind = λ i l. put_other x.carries k v i (λ g. omega arith);
                flagged = λ g. g;
                quiet = λ g. tt;
              };
          marks = ap (λ r. step_row w r (ins k) x.marks) e;
        }

    many_passed : (c : ℕ) → c < n → (k s a d : ℕ) (x : Machine) → Ruled t b w n x.rows
        → Passed (many c) k s a d x (does w ins (Run (classes_at + c) k) x)
    many_passed c h k s a d x R =
        let e : x.rows (classes_at + c) ≡ class_row t b w c = R.classes c h in
        let v : Bool = star_out w x.marks (x.rows (classes_at + c)) (ins k) in
        record {
          ran =
              record {
                registers = refl;
                carries = put_same x.carries k v ∙ ap (λ r. star_out w x.marks r (ins k)) e;
                deep = λ i l. refl;
                low = λ i l u. refl;
                high = λ i l u p. refl;
                before = λ i l. put_other x.carries k v i (λ g. omega arith);
                behind = λ i l. put_other x.carries k v i (λ g. omega arith);
                flagged = λ g. g;
                quiet = λ g. tt;
              };
          marks = ap (λ r. star_row w x.marks r (ins k)) e;
        }

    plus_passed : (c : ℕ) → c < n → (k s a d : ℕ) (x : Machine) → Ruled t b w n x.rows
        → Passed (plus c) k s a d x (does w ins (More (classes_at + c) k) x)
    plus_passed c h k s a d x R =
        let e : x.rows (classes_at + c) ≡ class_row t b w c = R.classes c h in
        let f : List Bool → Bool = λ r. step_out w r x.marks || star_out w (step_row w r (ins k) x.marks) r false in
        let v : Bool = f (x.rows (classes_at + c)) in
        record {
          ran =
              record {
                registers = refl;
                carries = put_same x.carries k v ∙ ap f e;
                deep = λ i l. refl;
                low = λ i l u. refl;
                high = λ i l u p. refl;
                before = λ i l. put_other x.carries k v i (λ g. omega arith);
                behind = λ i l. put_other x.carries k v i (λ g. omega arith);
                flagged = λ g. g;
                quiet = λ g. tt;
              };
          marks = ap (λ r. star_row w (step_row w r (ins k) x.marks) r false) e;
        }

    eps_passed : (k s a d : ℕ) (x : Machine) → Passed eps k s a d x x
    eps_passed k s a d x = record { ran = still_ran eps k s a d x x.marks refl refl tt; marks = refl }

    head_passed : (k s a d : ℕ) (x : Machine) → Ruled t b w n x.rows → Passed head k s a d x (does w ins (Keep starts_at) x)
    head_passed k s a d x R =
        record {
          ran = still_ran head k s a d x (and_row w x.marks (x.rows starts_at)) refl refl tt;
          marks = ap (and_row w x.marks) R.starts;
        }

    tail_passed : (k s a d : ℕ) (x : Machine) → Ruled t b w n x.rows → Passed tail k s a d x (does w ins (Keep feeds_at) x)
    tail_passed k s a d x R =
        record {
          ran = still_ran tail k s a d x (and_row w x.marks (x.rows feeds_at)) refl refl tt;
          marks = ap (and_row w x.marks) R.feeds;
        }

    -- the numbers that a pattern's program may have
    pub record Laid (F : Pattern) (s a : ℕ) : Type 0 where
      pub classed : Classed n F
      pub behind : classes_at + n ≤ s
      pub within : s + stars F ≤ a

    -- rows from `feeds_at` to the classes' end are none of those that are written
    ruled_put : (f : ℕ → List Bool) (r : ℕ) (v : List Bool) → (r < feeds_at) ⊎ (classes_at + n ≤ r) → Ruled t b w n f → Ruled t b w n (put f r v)
    ruled_put f r v (inl l) R = ruled_same f (put f r v) (λ i h u. put_other f r v i (λ e. omega arith)) R
    ruled_put f r v (inr l) R = ruled_same f (put f r v) (λ i h u. put_other f r v i (λ e. omega arith)) R

    mutual
      pub passed : (F : Pattern) (k s a d : ℕ) → Laid F s a → d + depth F ≤ feeds_at → (x : Machine) → Ruled t b w n x.rows
          → Passed F k s a d x (runs w ins (steps F k s a d) x)
      passed (leaf c) k s a d L dp x R = leaf_passed c L.classed k s a d x R
      passed (many c) k s a d L dp x R = many_passed c L.classed k s a d x R
      passed (plus c) k s a d L dp x R = plus_passed c L.classed k s a d x R
      passed eps k s a d L dp x R = eps_passed k s a d x
      passed (seq F G) k s a d L dp x R =
          let p : List Step = steps F k s a d in
          let q : List Step = steps G (k + leaves F) (s + stars F) (a + unions F) d in
          let m : Machine = runs w ins p x in
          let cs = L.classed in
          let lb = L.behind in
          let lw = L.within in
          let A = passed F k s a d (record { classed = cs.0; behind = lb; within = omega arith }) (omega arith) x R in
          let B =
          passed G (k + leaves F) (s + stars F) (a + unions F) d
          (record { classed = cs.1; behind = omega arith; within = omega arith }) (omega arith) m
          (ruled_same x.rows m.rows (λ i h u. A.ran.low i h (omega arith)) R) in
          subst (Passed (seq F G) k s a d x) (sym (runs_append p q x))
          (record {
            ran = seq_ran F G k s a d All x m (runs w ins q m) (omega arith) (omega arith) A B.ran;
            marks = B.marks ∙ seq_marks F G k s a d All x m (runs w ins q m) (omega arith) (omega arith) A B.ran;
          })
      passed (alt F G) k s a d L dp x R =
          let p : List Step = steps F k s (suc a) (suc d) in
          let q : List Step = into G (k + leaves F) (s + stars F) (suc (a + unions F)) d a in
          let cs = L.classed in
          let lb = L.behind in
          let lw = L.within in
          let x0 : Machine = does w ins (Save d) x in
          let x1 : Machine = runs w ins p x0 in
          let x2 : Machine = does w ins (Load d) (does w ins (Save a) x1) in
          let x3 : Machine = runs w ins q x2 in
          let A =
          passed F k s (suc a) (suc d) (record { classed = cs.0; behind = lb; within = omega arith }) (omega arith) x0
          (ruled_put x.rows d x.marks (inl (omega arith)) R) in
          let R1 : Ruled t b w n x1.rows =
          ruled_same x0.rows x1.rows (λ i h u. A.ran.low i h (omega arith)) (ruled_put x.rows d x.marks (inl (omega arith)) R) in
          let B =
          added G (k + leaves F) (s + stars F) (suc (a + unions F)) d a
          (record { classed = cs.1; behind = omega arith; within = omega arith }) (omega arith) (omega arith) (omega arith) x2
          (ruled_put x1.rows a x1.marks (inr (omega arith)) R1) in
          let rows : (i : ℕ) → i < a → x2.rows i ≡ x1.rows i = λ i l. put_other x1.rows a x1.marks i (λ e. omega arith) in
          let again : x2.marks ≡ x.marks =
          rows d (omega arith) ∙ (A.ran.deep d (omega arith) ∙ put_same x.rows d x.marks) in
          let left =
          left_marks F G k s a d All (Not a) (suc a) (suc (a + unions F)) x x1 x2 x3 (omega arith) (omega arith) (omega arith)
          (omega arith) (omega arith) (λ i l. tt) (λ i l q. tt) again rows refl refl A.ran B.ran in
          let right =
          right_marks F G k s a d All (Not a) (suc a) (suc (a + unions F)) x x1 x2 x3 (omega arith) (omega arith) (omega arith)
          (omega arith) (omega arith) (λ i l. tt) (λ i l q. tt) again rows refl refl A.ran B.ran in
          let ran =
          alt_ran F G k s a d All (Not a) (suc a) (suc (a + unions F)) x x1 x2 x3 (omega arith) (omega arith) (omega arith)
          (omega arith) (omega arith) (λ i l. tt) (λ i l q. tt) again rows refl refl A.ran B.ran in
          subst (Passed (alt F G) k s a d x)
          (sym (runs_append p (Save a ∷ Load d ∷ (q ++ (Load a ∷ []))) x0 ∙ runs_append q (Load a ∷ []) x2))
          (record {
            ran =
                record {
                  registers = ran.registers;
                  carries = ran.carries;
                  deep = ran.deep;
                  low = ran.low;
                  high = λ i l u p. ran.high i l u (λ e. omega arith);
                  before = ran.before;
                  behind = ran.behind;
                  flagged = ran.flagged;
                  quiet = ran.quiet;
                };
            marks = B.row ∙ (λ j. or_row w ((put_same x1.rows a x1.marks ∙ (A.marks ∙ left)) j) (right j));
          })
      passed (opt F) k s a d L dp x R =
          let q : List Step = into F k s (suc a) d a in
          let cs = L.classed in
          let lb = L.behind in
          let lw = L.within in
          let x0 : Machine = does w ins (Save a) x in
          let x1 : Machine = runs w ins q x0 in
          let B =
          added F k s (suc a) d a (record { classed = cs; behind = lb; within = omega arith }) dp lw (omega arith) x0
          (ruled_put x.rows a x.marks (inr (omega arith)) R) in
          let ran : Ran (opt F) k s a d All x x1 =
          opt_ran F k s a (suc a) d a (Not a) All x x.marks x1 (omega arith) (omega arith) lw (omega arith)
          (λ i l g. (λ e. omega arith, λ e. omega arith)) B.ran in
          subst (Passed (opt F) k s a d x) (sym (runs_append q (Load a ∷ []) x0))
          (record {
            ran =
                record {
                  registers = ran.registers;
                  carries = ran.carries;
                  deep = ran.deep;
                  low = ran.low;
                  high = ran.high;
                  before = ran.before;
                  behind = ran.behind;
                  flagged = ran.flagged;
                  quiet = ran.quiet;
                };
            marks =
                B.row
                ∙ (λ j. or_row w (put_same x.rows a x.marks j) (out o F (K F k) (rows_put F s a x.rows x.marks lw j) x.marks));
          })
      passed (star F) k s a d L dp x R =
          let p : List Step = steps F k (suc s) a d in
          let cs = L.classed in
          let lb = L.behind in
          let lw = L.within in
          let v : List Bool = or_row w (x.rows s) x.marks in
          let x0 : Machine = does w ins (Load s) (does w ins (Or s) x) in
          let A =
          passed F k (suc s) a d (record { classed = cs; behind = omega arith; within = omega arith }) dp x0
          (ruled_put x.rows s v (inr (omega arith)) R) in
          subst (Passed (star F) k s a d x) (sym (runs_append p (Grow s ∷ Load s ∷ []) x0))
          (star_passed F k s a d x (runs w ins p x0) (omega arith) (omega arith) A)
      passed head k s a d L dp x R = head_passed k s a d x R
      passed tail k s a d L dp x R = tail_passed k s a d x R

      pub added : (F : Pattern) (k s a d r : ℕ) → Laid F s a → d + depth_into F ≤ feeds_at → s + stars F ≤ r → r < a → (x : Machine)
          → Ruled t b w n x.rows → Added F k s a d r x (runs w ins (into F k s a d r) x)
      added (leaf c) k s a d r L dp l u x R =
          gathered (leaf c) k s a d r x _ (omega arith) (omega (arith, L.behind)) l u (leaf_passed c L.classed k s a d x R)
      added (many c) k s a d r L dp l u x R =
          gathered (many c) k s a d r x _ (omega arith) (omega (arith, L.behind)) l u (many_passed c L.classed k s a d x R)
      added (plus c) k s a d r L dp l u x R =
          gathered (plus c) k s a d r x _ (omega arith) (omega (arith, L.behind)) l u (plus_passed c L.classed k s a d x R)
      added eps k s a d r L dp l u x R = gathered eps k s a d r x _ (omega arith) (omega (arith, L.behind)) l u (eps_passed k s a d x)
      added (seq F G) k s a d r L dp l u x R =
          let p : List Step = steps F k s a d in
          let q : List Step = into G (k + leaves F) (s + stars F) (a + unions F) d r in
          let m : Machine = runs w ins p x in
          let cs = L.classed in
          let lb = L.behind in
          let lw = L.within in
          let A = passed F k s a d (record { classed = cs.0; behind = lb; within = omega arith }) (omega arith) x R in
          let B =
          added G (k + leaves F) (s + stars F) (a + unions F) d r
          (record { classed = cs.1; behind = omega arith; within = omega arith }) (omega arith) (omega arith) (omega arith) m
          (ruled_same x.rows m.rows (λ i h g. A.ran.low i h (omega arith)) R) in
          subst (Added (seq F G) k s a d r x) (sym (runs_append p q x))
          (record {
            ran = seq_ran F G k s a d (Not r) x m (runs w ins q m) (omega arith) (omega arith) A B.ran;
            row =
                B.row
                ∙ (λ j. or_row w (A.ran.high r (omega arith) u tt j)
                (seq_marks F G k s a d (Not r) x m (runs w ins q m) (omega arith) (omega arith) A B.ran j));
          })
      added (alt F G) k s a d r L dp l u x R =
          let p : List Step = into F k s a (suc d) r in
          let q : List Step = into G (k + leaves F) (s + stars F) (a + unions_into F) d r in
          let cs = L.classed in
          let lb = L.behind in
          let lw = L.within in
          let x0 : Machine = does w ins (Save d) x in
          let x1 : Machine = runs w ins p x0 in
          let x2 : Machine = does w ins (Load d) x1 in
          let y : Machine = runs w ins q x2 in
          let A =
          added F k s a (suc d) r (record { classed = cs.0; behind = lb; within = omega arith }) (omega arith) (omega arith) u x0
          (ruled_put x.rows d x.marks (inl (omega arith)) R) in
          let R1 : Ruled t b w n x1.rows =
          ruled_same x0.rows x1.rows (λ i h g. A.ran.low i h (omega arith)) (ruled_put x.rows d x.marks (inl (omega arith)) R) in
          let B =
          added G (k + leaves F) (s + stars F) (a + unions_into F) d r
          (record { classed = cs.1; behind = omega arith; within = omega arith }) (omega arith) (omega arith) (omega arith) x2 R1 in
          let again : x2.marks ≡ x.marks = A.ran.deep d (omega arith) ∙ put_same x.rows d x.marks in
          let left =
          left_marks F G k s a d (Not r) (Not r) a (a + unions_into F) x x1 x2 y (omega arith) (omega arith) (omega arith)
          (omega arith) (omega arith) (λ i h e. omega arith) (λ i h g. g) again (λ i h. refl) refl refl A.ran B.ran in
          let right =
          right_marks F G k s a d (Not r) (Not r) a (a + unions_into F) x x1 x2 y (omega arith) (omega arith) (omega arith)
          (omega arith) (omega arith) (λ i h e. omega arith) (λ i h g. g) again (λ i h. refl) refl refl A.ran B.ran in
          subst (Added (alt F G) k s a d r x) (sym (runs_append p (Load d ∷ q) x0))
          (record {
            ran =
                alt_ran F G k s a d (Not r) (Not r) a (a + unions_into F) x x1 x2 y (omega arith) (omega arith) (omega arith)
                (omega arith) (omega arith) (λ i h e. omega arith) (λ i h g. g) again (λ i h. refl) refl refl A.ran B.ran;
            row =
                B.row
                ∙ ((λ j. or_row w ((A.row ∙ (λ i. or_row w (put_other x.rows d x.marks r (λ e. omega arith) i) (left i))) j) (right j))
                ∙ or_row_assoc w (x.rows r) (Marks F k s x) (Marks G (k + leaves F) (s + stars F) x));
          })
      added (opt F) k s a d r L dp l u x R =
          let v : List Bool = or_row w (x.rows r) x.marks in
          let x0 : Machine = does w ins (Or r) x in
          let y : Machine = runs w ins (into F k s a d r) x0 in
          let cs = L.classed in
          let lb = L.behind in
          let lw = L.within in
          let B =
          added F k s a d r (record { classed = cs; behind = lb; within = lw }) dp l u x0
          (ruled_put x.rows r v (inr (omega arith)) R) in
          record {
            ran =
                opt_ran F k s a a d r (Not r) (Not r) x v y (omega arith) (omega arith) l (omega arith) (λ i h g. (g, g)) B.ran;
            row =
                B.row
                ∙ ((λ j. or_row w (put_same x.rows r v j) (out o F (K F k) (rows_put F s r x.rows v l j) x.marks))
                ∙ or_row_assoc w (x.rows r) x.marks (Marks F k s x));
          }
      added (star F) k s a d r L dp l u x R =
          let p : List Step = steps F k (suc s) a d in
          let cs = L.classed in
          let lb = L.behind in
          let lw = L.within in
          let v : List Bool = or_row w (x.rows s) x.marks in
          let x0 : Machine = does w ins (Load s) (does w ins (Or s) x) in
          let A =
          passed F k (suc s) a d (record { classed = cs; behind = omega arith; within = omega arith }) dp x0
          (ruled_put x.rows s v (inr (omega arith)) R) in
          subst (Added (star F) k s a d r x) (sym (runs_append p (Grow s ∷ Load s ∷ Or r ∷ []) x0))
          (gathered (star F) k s a d r x _ (omega arith) (omega arith) l u
          (star_passed F k s a d x (runs w ins p x0) (omega arith) (omega arith) A))
      added head k s a d r L dp l u x R =
          gathered head k s a d r x _ (omega arith) (omega (arith, L.behind)) l u (head_passed k s a d x R)
      added tail k s a d r L dp l u x R =
          gathered tail k s a d r x _ (omega arith) (omega (arith, L.behind)) l u (tail_passed k s a d x R)
