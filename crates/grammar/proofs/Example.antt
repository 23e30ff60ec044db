-- A worked example. Assumes nothing.
use Rattle.std.proofs.Common.{◌≡◌, ℕ, zero, suc, ◌<◌, ◌≤◌, true, false, List, [], ◌∷◌, get_or, codes, refl, inl, arith}
use Rattle.lexer.specs.declared.Class.TheVariants.{Space, Letter}
use Rattle.lexer.specs.Tokens.{in_class, Run, opening, closing, word}
use Rattle.grammar.specs.Verdicts.{SeekAlone, unexpected}
use Rattle.grammar.proofs.Wants.{Want, Takes, top, form, shut, opens, seeks, one, none}
use Rattle.grammar.proofs.Refusals.{Refused}
use Rattle.grammar.proofs.Laws.{refused_says}

abbrev text : List ℕ
text = codes "(seek)"

no_space : (p : ℕ) → p ≤ 6 → in_class Space (get_or text p 0) ≡ in_class Space 40 → Run Space text p p
no_space p h e = record { rises = omega arith; within = omega arith; all = λ k a b. absurd (omega arith); stops = λ _. e }

letters : (k : ℕ) → k < 5 → 1 ≤ k → in_class Letter (get_or text k 0) ≡ true
letters zero a b = absurd (omega arith)
letters (suc zero) a b = refl
letters (suc (suc zero)) a b = refl
letters (suc (suc (suc zero))) a b = refl
letters (suc (suc (suc (suc zero)))) a b = refl
letters (suc (suc (suc (suc (suc k))))) a b = absurd (omega arith)

never_closes : {σ ρ : List Want} → Takes false (closing ∷ []) (form 1 ∷ σ) ρ → ⊥
never_closes (one s a) = elim s [ ]

refused : Refused text 0 (top ∷ []) (unexpected 5)
refused =
    record {
      tokens = opening ∷ word (codes "seek") ∷ [];
      to = 5;
      left = form 1 ∷ shut ∷ [];
      spans = (
        0,
        1,
        record { skips = no_space 0 (omega arith) refl; token = record { inside = omega arith; byte = refl; to = refl } },
        (1, 5, record { skips = no_space 1 (omega arith) refl; token = record { some = omega arith; run = record { rises = omega arith; within = omega arith; all = letters; stops = λ _. refl }; text = refl } }, refl),
      );
      takes = one opens (one (seeks refl) none);
      fault =
          inl (closing, record { past = 6; lexes = record { skips = no_space 5 (omega arith) refl; token = record { inside = omega arith; byte = refl; to = refl } }; never = λ ρ a. never_closes a });
    }

pub seek_alone : SeekAlone
seek_alone = inl (omega arith, refused_says text (unexpected 5) refused)
