-- The steps along the ones of a block that a loop knows. Assumes nothing.
use Rattle.std.proofs.Common.{◌≡◌, ℕ, ◌+◌, ◌<◌, ◌≤◌, Bool, true, false, List, Some, None, sym, ap, ◌∙◌, arith}
use Rattle.block.specs.Rows.{bit}
use Rattle.marks.specs.declared.ones.Ones.{Ones}
use Rattle.marks.specs.Ones.{StepsOn}

module _ {B : Type 0} (row : B → List Bool) (w : ℕ) (block : B) (to : ℕ) (seen : to ≤ w) (s u : Ones B) (same : s.block ≡ block) (end : s.to ≡ to) where
  -- one more
  pub record Found (p : ℕ) : Type 0 where
    pub from : s.from ≤ p
    pub below : p < to
    pub here : bit (row block) p ≡ true
    pub none : (i : ℕ) → s.from ≤ i → i < p → bit (row block) i ≡ false
    pub block_left : u.block ≡ block
    pub to_left : u.to ≡ to
    pub from_left : u.from ≡ p + 1

  pub found : (p : ℕ) → StepsOn row w s (Some p) u → Found p
  found p S =
      let f = S.least in
      record {
        from = f.0;
        below = let l = f.1 in omega arith;
        here = sym (ap (λ b. bit (row b) p) same) ∙ f.2;
        none = λ i h l. sym (ap (λ b. bit (row b) i) same) ∙ f.3 i h l;
        block_left = S.block ∙ same;
        to_left = S.to ∙ end;
        from_left = S.from;
      }

  -- and none more
  pub no_more : StepsOn row w s None u → (i : ℕ) → s.from ≤ i → i < to → bit (row block) i ≡ false
  no_more S i h l = sym (ap (λ b. bit (row b) i) same) ∙ S.least i h (omega arith)
