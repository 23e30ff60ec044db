-- What a run over a ready block finds, and that a form's program is in range. Assumes nothing.
use Rattle.std.proofs.Common.{◌≡◌, ℕ, ◌+◌, ◌-◌, ◌<◌, ◌≤◌, Bool, false, T, ◌⊎◌, ◌↔◌, List, [], ◌∷◌, sym, ap, ◌∙◌, subst, inl, arith}
use Rattle.block.specs.Rows.{bit}
use Rattle.block.specs.Calls.{none_row, all_row}
use Rattle.form.specs.Form.{Form}
use Rattle.form.specs.Positions.{Ending}
use Rattle.theory.specs.Written.{streams, written}
use Rattle.stream.specs.Tables.{rows}
use Rattle.program.specs.declared.Step.{Step}
use Rattle.program.specs.declared.Step.TheVariants.{Take, Run, More, Keep, Save, Load, Or, Grow}
use Rattle.program.specs.Machine.{Machine, repeated}
use Rattle.program.specs.Compile.{Within, Each}
use Rattle.program.specs.Matched.{Standing, matched}
use Rattle.program.specs.Sizes.{class_count, form_program}
use Rattle.program.proofs.Fitting.{program_fits}
use Rattle.program.proofs.Matched.{form_block}
use Rattle.program.proofs.Passing.{ruled_same}
use Rattle.program.proofs.Sizes.{form_classed, form_depth}
use Rattle.machine.specs.Holding.{holding}
use Rattle.machine.specs.Blocks.{Ready, Found, FormFits}

module _ {B : Type 0} (row : B → List Bool) (w : ℕ) (marks ends : B) (blocks cleared last : List B) (carries next : ℕ → Bool) where
  abbrev x : Machine
  x = holding row marks cleared carries false

  abbrev y : Machine
  y = holding row ends last next false

  pub found : 0 < w → (ins : ℕ → Bool) (program : List Step) (from to : ℕ) → row marks ≡ all_row w
      → ((i : ℕ) → from ≤ i → i < to → rows row cleared i ≡ none_row w)
      → ((i : ℕ) → (i < from) ⊎ (to ≤ i) → rows row cleared i ≡ rows row blocks i)
      → (j : ℕ) → y ≡ repeated w ins program (row marks) x j
      → (F : Form) (t : ℕ → ℕ) (b : ℕ) → Ready F t b w program from to (rows row blocks) ins → Found F t b w (row ends) next
  found pos ins program from to all emptied others j e F t b R =
      let first = R.first in
      let end = R.last in
      let is : y ≡ matched F w ins x j = e ∙ (λ i. repeated w ins (R.is i) (all i) x j) in
      let ruled = ruled_same (streams F t) b w ins (class_count F) (rows row blocks) (rows row cleared) (λ i l u. others i (inl (omega arith))) R.ruled in
      let both =
      form_block F R.nested t b w pos ins R.standing x ruled (λ i l u. emptied i (omega arith) (omega arith)) j
      (ap (λ (z : Machine). z.changed) (sym is)) in
      record {
        ends =
            λ p l u.
            subst (λ (z : Machine). T (bit z.marks (p - b)) ↔ Ending t F p) (sym is) (both.0 p l u);
        standing = subst (λ (z : Machine). Standing F t (b + w) z.carries) (sym is) both.1;
      }

each_map : (P Q : Step → Type 0) → ((s : Step) → P s → Q s) → (p : List Step) → Each P p → Each Q p
each_map P Q f [] h = tt
each_map P Q f (s ∷ p) h = (f s h.0, each_map P Q f p h.1)

-- more rows and carries do no harm
wider : (n m k l s e : ℕ) → n ≤ m → k ≤ l → (p : Step) → Within n k s e p → Within m l s e p
wider n m k l s e nm kl (Take c j) h = (omega arith, omega arith)
wider n m k l s e nm kl (Run c j) h = (omega arith, omega arith)
wider n m k l s e nm kl (More c j) h = (omega arith, omega arith)
wider n m k l s e nm kl (Keep r) h = omega arith
wider n m k l s e nm kl (Save r) h = (omega arith, h.1)
wider n m k l s e nm kl (Load r) h = omega arith
wider n m k l s e nm kl (Or r) h = omega arith
wider n m k l s e nm kl (Grow r) h = (omega arith, h.1, h.2)

pub wider_each : (n m k l s e : ℕ) → n ≤ m → k ≤ l → (p : List Step) → Each (Within n k s e) p → Each (Within m l s e) p
wider_each n m k l s e nm kl p h = each_map _ _ (wider n m k l s e nm kl) p h

pub form_fits : FormFits
form_fits F deep n k hn hk =
    wider_each _ n _ k _ _ hn hk (form_program F)
    (program_fits (class_count F) (written F) (form_classed F) (omega (arith, form_depth F)))
