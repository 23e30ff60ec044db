-- A history that goes on. Assumes nothing.
use Rattle.std.proofs.Common.{◌≡◌, ℕ, ◌+◌, ◌<◌, min, Bool, List, [], ◌∷◌, ◌++◌, length, take, slice_index_or, Result, refl, sym, ap, ◌∙◌, subst, add-one, arith}
use Rattle.std.proofs.Math.Seq.{take-suc}
use Rattle.std.proofs.lemmas.List.{length-take-le}
use Rattle.refusal.specs.declared.Refusal.{Refusal}
use Rattle.history.specs.Calls.{History}
use Rattle.history.specs.Rules.{Lawful}
use Rattle.search.specs.declared.calls.Answer.{Answer}
use Rattle.search.specs.declared.state.Search.{Search}
use Rattle.search.specs.Telling.{asked, told, Tells, Performs}
use Rattle.replay.specs.declared.Request.{Request}
use Rattle.replay.specs.Recorded.{goes_on}

module _ {B : Type 0} (row : B → List Bool) (w n : ℕ) where
  -- one request more, and its answer, is the newest event
  one_more :
      (h : History) (qs : List Request) (ts : List (Result (Answer B) Refusal)) (q : Request) (t : Result (Answer B) Refusal) →
      length ts ≡ length qs →
      goes_on row w n h (qs ++ q ∷ []) (ts ++ t ∷ []) ≡ record { asked = asked q.call (min q.blocks n); told = told row t } ∷ goes_on row w n h qs ts
  one_more h [] [] q t e = refl
  one_more h [] (x ∷ ts) q t e = absurd (omega (arith, e))
  one_more h (p ∷ qs) [] q t e = absurd (omega (arith, e))
  one_more h (p ∷ qs) (x ∷ ts) q t e = one_more (record { asked = asked p.call (min p.blocks n); told = told row x } ∷ h) qs ts q t (omega (arith, e))

  -- where the requests before the one at i have their answers, its own makes the history that goes on
  pub goes :
      (s u : Search B) (old new : List B) (qs : List Request) (ts : List (Result (Answer B) Refusal)) (i m : ℕ) (d : Request)
      (t : Result (Answer B) Refusal) → length ts ≡ i → i < length qs → m ≡ min (slice_index_or qs i d).blocks n →
      Lawful w (goes_on row w n [] (take i qs) ts) →
      Performs row w s u old new (goes_on row w n [] (take i qs) ts) (asked (slice_index_or qs i d).call m) (told row t) →
      Tells row w u (goes_on row w n [] (take (i + 1) qs) (ts ++ t ∷ [])) × Lawful w (goes_on row w n [] (take (i + 1) qs) (ts ++ t ∷ []))
  goes s u old new qs ts i m d t long within few lawful P =
      let h : History = goes_on row w n [] (take i qs) ts in
      let q : Request = slice_index_or qs i d in
      let e : goes_on row w n [] (take (i + 1) qs) (ts ++ t ∷ []) ≡ record { asked = asked q.call m; told = told row t } ∷ h =
      ap (λ k. goes_on row w n [] (take k qs) (ts ++ t ∷ [])) (add-one i)
      ∙ ap (λ x. goes_on row w n [] x (ts ++ t ∷ [])) (take-suc qs i d within)
      ∙ one_more [] (take i qs) ts q t (long ∙ sym (length-take-le i qs (omega (arith, within))))
      ∙ ap (λ k. record { asked = asked q.call k; told = told row t } ∷ h) (sym few)
      in
      subst (λ x. Tells row w u x × Lawful w x) (sym e) (P.tells, (P.right, P.law, lawful))
