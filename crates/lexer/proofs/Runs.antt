-- Where the longest run of a class ends. Assumes nothing.
use Rattle.std.proofs.Common.{◌≡◌, ℕ, ◌+◌, ◌-◌, ◌≤◌, true, List, length, get_or, take, drop, sym, ap, ◌∙◌, subst, arith}
use Rattle.std.specs.List.{prefix_len}
use Rattle.std.proofs.lemmas.List.{length-drop, get_or-drop, take_rest}
use Rattle.std.proofs.lemmas.List.Sums.{prefix_len-le-length, prefix_len_passes, prefix_len_stops}
use Rattle.lexer.specs.declared.Class.{Class}
use Rattle.lexer.specs.Tokens.{in_class, Run}

-- n bytes of the class begin what stands from a on
module _ (c : Class) (x : List ℕ) (a n : ℕ) (h : a ≤ length x) (is : n ≡ prefix_len (in_class c) (drop a x)) where
  within : a + n ≤ length x
  within = omega (arith, prefix_len-le-length (in_class c) (drop a x), length-drop a x)

  pub runs : Run c x a (a + n)
  runs =
      record {
        rises = omega arith;
        within = within;
        all = λ k l m.
            let at : a + (k - a) ≡ k = omega arith in
            subst (λ i. in_class c (get_or x i 0) ≡ true) at (ap (in_class c) (sym (get_or-drop a x (k - a) 0)) ∙ prefix_len_passes (in_class c) (drop a x) (k - a) 0 (omega arith));
        stops = λ l.
            ap (λ i. in_class c (get_or x (a + i) 0)) is ∙ ap (in_class c) (sym (get_or-drop a x (prefix_len (in_class c) (drop a x)) 0)) ∙ prefix_len_stops (in_class c) (drop a x) 0 (omega (arith, length-drop a x));
      }

-- the same of the slice that the code cuts
module _ (c : Class) (x : List ℕ) (a n : ℕ) (h : a ≤ length x) (is : n ≡ prefix_len (in_class c) (take (length x - a) (drop a x))) where
  is_rest : n ≡ prefix_len (in_class c) (drop a x)
  is_rest = is ∙ ap (prefix_len (in_class c)) (take_rest x a)

  pub cut_within : a + n ≤ length x
  cut_within = within c x a n h is_rest

  pub cut_runs : Run c x a (a + n)
  cut_runs = runs c x a n h is_rest
