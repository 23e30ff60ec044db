-- A text has no two verdicts. Assumes nothing.
use Rattle.std.proofs.Common.{◌≡◌, ℕ, Bool, true, false, ◌⊎◌, List, [], ◌∷◌, ◌++◌, length, sym, ap, ◌∙◌, subst, inl, inr, ⊎_elim, append_assoc, append-nil, arith}
use Rattle.lexer.specs.Tokens.{Tok, opening, word, Lexes, Ends, Stray, Tokens}
use Rattle.lexer.proofs.Once.{lexes_once, lexes_no_end, lexes_no_stray, ends_no_stray, stray_once, Longer, compare_tokens}
use Rattle.form.specs.Form.{Form}
use Rattle.grammar.specs.Grammar.{Text}
use Rattle.grammar.specs.Verdicts.{Begun, Exceeds, Says, OneVerdict, Verdict, accepted, too_long, no_token, unexpected, bad_number, too_deep}
use Rattle.grammar.proofs.Runs.{takes_loosely}
use Rattle.grammar.proofs.Past.{past_text}
use Rattle.grammar.proofs.Sound.{text_met}
use Rattle.grammar.proofs.Unique.{text_once}

begun_loosely : (ts : List Tok) → Begun true ts → Begun false ts
begun_loosely ts b = let m = text_met false (ts ++ b.1) (takes_loosely (past_text b.0 b.2)) in (m.0, b.1, m.1)

begun_shorter : (k : Bool) (ts : List Tok) (t : Tok) (more us : List Tok) → us ≡ ts ++ (t ∷ more) → Begun k us → Begun k (ts ++ (t ∷ []))
begun_shorter k ts t more us is b =
    (b.0, more ++ b.1, subst (Text k b.0) (ap (λ v. v ++ b.1) is ∙ append_assoc ts (t ∷ more) b.1 ∙ sym (append_assoc ts (t ∷ []) (more ++ b.1))) b.2)

-- what is left to say of a verdict where the lawful tokens ts end at q
abbrev Final : List ℕ → List Tok → ℕ → Verdict → Type 0
Final x ts q (accepted f) = Ends x q × Text true f ts
Final x ts q too_long = ⊥
Final x ts q (no_token s) = Stray x q s
Final x ts q (unexpected s) =
    ((t : Tok) × (e : ℕ) × Lexes x q t s e × (Begun false (ts ++ (t ∷ [])) → ⊥)) ⊎ (Ends x q × ((f : Form) → Text true f ts → ⊥) × (s ≡ length x))
Final x ts q (bad_number s) = (w : List ℕ) × (e : ℕ) × Lexes x q (word w) s e × Begun false (ts ++ (word w ∷ []))
Final x ts q (too_deep s) = (e : ℕ) × Lexes x q opening s e × Begun false (ts ++ (opening ∷ []))

-- the lawful tokens end at q: no token that stands there goes on with them
record Stop (x : List ℕ) (v : Verdict) : Type 0 where
  tokens : List Tok
  to : ℕ
  spans : Tokens x tokens 0 to
  begun : Begun true tokens
  halts : (t : Tok) (s e : ℕ) → Lexes x to t s e → Begun true (tokens ++ (t ∷ [])) → ⊥
  final : Final x tokens to v

only : (x : List ℕ) (ts : List Tok) (q : ℕ) (t : Tok) (s e : ℕ) → Lexes x q t s e → (Begun true (ts ++ (t ∷ [])) → ⊥) → (u : Tok) (r f : ℕ) → Lexes x q u r f → Begun true (ts ++ (u ∷ [])) → ⊥
only x ts q t s e l never u r f m b = never (subst (λ v. Begun true (ts ++ (v ∷ []))) (sym (lexes_once t u x q s r e f l m).0) b)

exceeds_stop : (x : List ℕ) (t : Tok) (s : ℕ) (v : Verdict) (h : Exceeds x t s) → Final x h.tokens h.to v → Stop x v
exceeds_stop x t s v h f =
    record { tokens = h.tokens; to = h.to; spans = h.before.spans; begun = h.before.begun; halts = only x h.tokens h.to t s h.past h.lexes h.never; final = f }

stop : (x : List ℕ) (v : Verdict) → Says x v → Stop x v
stop x (accepted f) h =
    record { tokens = h.tokens; to = h.to; spans = h.spans; begun = (f, [], subst (Text true f) (sym (append-nil h.tokens)) h.text); halts = λ t s e l _. lexes_no_end t x h.to s e l h.ends; final = (h.ends, h.text) }
stop x too_long h = absurd h
stop x (no_token s) h =
    record { tokens = h.tokens; to = h.to; spans = h.before.spans; begun = h.before.begun; halts = λ t r e l _. lexes_no_stray t x h.to r e s l h.stray; final = h.stray }
stop x (unexpected s) h =
    ⊎_elim
    (λ m. record { tokens = m.tokens; to = m.to; spans = m.before.spans; begun = m.before.begun; halts = only x m.tokens m.to m.token s m.past m.lexes (λ b. m.never (begun_loosely _ b)); final = inl (m.token, m.past, m.lexes, m.never) })
    (λ m. record { tokens = m.tokens; to = m.to; spans = m.before.spans; begun = m.before.begun; halts = λ t r e l _. lexes_no_end t x m.to r e l m.ends; final = inr (m.ends, m.unfinished, m.at) })
    h
stop x (bad_number s) h = exceeds_stop x (word h.0) s (bad_number s) h.1 (h.0, h.1.past, h.1.lexes, h.1.loosely)
stop x (too_deep s) h = exceeds_stop x opening s (too_deep s) h (h.past, h.lexes, h.loosely)

goes_on : (x : List ℕ) (u v : Verdict) (a : Stop x u) (b : Stop x v) → Longer x a.tokens b.tokens a.to → ⊥
goes_on x u v a b l =
    a.halts l.token l.start l.past l.lexes (begun_shorter true a.tokens l.token l.more b.tokens l.is b.begun)

apart : (x : List ℕ) (q : ℕ) (t u : Tok) (s r e f : ℕ) → Lexes x q t s e → Lexes x q u r f → (t ≡ u → ⊥) → ⊥
apart x q t u s r e f a b n = n (lexes_once t u x q s r e f a b).0

-- at one place, of the same tokens
module _ (x : List ℕ) (ts : List Tok) (q : ℕ) where
  at_place : (t u : Tok) (s r e f : ℕ) → Lexes x q t s e → Lexes x q u r f → s ≡ r
  at_place t u s r e f a b = (lexes_once t u x q s r e f a b).1

  loose : (t u : Tok) (s r e f : ℕ) → Lexes x q t s e → Lexes x q u r f → (Begun false (ts ++ (t ∷ [])) → ⊥) → Begun false (ts ++ (u ∷ [])) → ⊥
  loose t u s r e f a b never h = never (subst (λ v. Begun false (ts ++ (v ∷ []))) (sym (lexes_once t u x q s r e f a b).0) h)

  decided : (u v : Verdict) → Final x ts q u → Final x ts q v → u ≡ v
  decided (accepted f) (accepted g) a b = ap accepted (text_once true true f g ts a.1 b.1)
  decided (accepted f) too_long a b = absurd b
  decided (accepted f) (no_token r) a b = absurd (ends_no_stray x q r a.0 b)
  decided (accepted f) (unexpected r) a b = absurd (⊎_elim (λ l. lexes_no_end l.0 x q r l.1 l.2 a.0) (λ m. m.1 f a.1) b)
  decided (accepted f) (bad_number r) a b = absurd (lexes_no_end (word b.0) x q r b.1 b.2 a.0)
  decided (accepted f) (too_deep r) a b = absurd (lexes_no_end opening x q r b.0 b.1 a.0)
  decided too_long v a b = absurd a
  decided (no_token s) (accepted g) a b = absurd (ends_no_stray x q s b.0 a)
  decided (no_token s) too_long a b = absurd b
  decided (no_token s) (no_token r) a b = ap no_token (stray_once x q s r a b)
  decided (no_token s) (unexpected r) a b = absurd (⊎_elim (λ l. lexes_no_stray l.0 x q r l.1 s l.2 a) (λ m. ends_no_stray x q s m.0 a) b)
  decided (no_token s) (bad_number r) a b = absurd (lexes_no_stray (word b.0) x q r b.1 s b.2 a)
  decided (no_token s) (too_deep r) a b = absurd (lexes_no_stray opening x q r b.0 s b.1 a)
  decided (unexpected s) (accepted g) a b = absurd (⊎_elim (λ l. lexes_no_end l.0 x q s l.1 l.2 b.0) (λ m. m.1 g b.1) a)
  decided (unexpected s) too_long a b = absurd b
  decided (unexpected s) (no_token r) a b = absurd (⊎_elim (λ l. lexes_no_stray l.0 x q s l.1 r l.2 b) (λ m. ends_no_stray x q r m.0 b) a)
  decided (unexpected s) (unexpected r) a b =
      ap unexpected
      (⊎_elim
      (λ l. ⊎_elim (λ k. at_place l.0 k.0 s r l.1 k.1 l.2 k.2) (λ k. absurd (lexes_no_end l.0 x q s l.1 l.2 k.0)) b)
      (λ l. ⊎_elim (λ k. absurd (lexes_no_end k.0 x q r k.1 k.2 l.0)) (λ k. l.2 ∙ sym k.2) b)
      a)
  decided (unexpected s) (bad_number r) a b =
      absurd (⊎_elim (λ l. loose l.0 (word b.0) s r l.1 b.1 l.2 b.2 l.3 b.3) (λ m. lexes_no_end (word b.0) x q r b.1 b.2 m.0) a)
  decided (unexpected s) (too_deep r) a b =
      absurd (⊎_elim (λ l. loose l.0 opening s r l.1 b.0 l.2 b.1 l.3 b.2) (λ m. lexes_no_end opening x q r b.0 b.1 m.0) a)
  decided (bad_number s) (accepted g) a b = absurd (lexes_no_end (word a.0) x q s a.1 a.2 b.0)
  decided (bad_number s) too_long a b = absurd b
  decided (bad_number s) (no_token r) a b = absurd (lexes_no_stray (word a.0) x q s a.1 r a.2 b)
  decided (bad_number s) (unexpected r) a b =
      absurd (⊎_elim (λ l. loose l.0 (word a.0) r s l.1 a.1 l.2 a.2 l.3 a.3) (λ m. lexes_no_end (word a.0) x q s a.1 a.2 m.0) b)
  decided (bad_number s) (bad_number r) a b = ap bad_number (at_place (word a.0) (word b.0) s r a.1 b.1 a.2 b.2)
  decided (bad_number s) (too_deep r) a b = absurd (apart x q (word a.0) opening s r a.1 b.0 a.2 b.1 (λ e. let z : ◌≡◌ {A = ℕ} 0 1 = cc in omega arith))
  decided (too_deep s) (accepted g) a b = absurd (lexes_no_end opening x q s a.0 a.1 b.0)
  decided (too_deep s) too_long a b = absurd b
  decided (too_deep s) (no_token r) a b = absurd (lexes_no_stray opening x q s a.0 r a.1 b)
  decided (too_deep s) (unexpected r) a b =
      absurd (⊎_elim (λ l. loose l.0 opening r s l.1 a.0 l.2 a.1 l.3 a.2) (λ m. lexes_no_end opening x q s a.0 a.1 m.0) b)
  decided (too_deep s) (bad_number r) a b = absurd (apart x q opening (word b.0) s r a.0 b.1 a.1 b.2 (λ e. let z : ◌≡◌ {A = ℕ} 0 1 = cc in omega arith))
  decided (too_deep s) (too_deep r) a b = ap too_deep (at_place opening opening s r a.0 b.0 a.1 b.1)

says_once : (x : List ℕ) (u v : Verdict) → Says x u → Says x v → u ≡ v
says_once x u v h k =
    let a = stop x u h in
    let b = stop x v k in
    ⊎_elim
    (λ e. decided x a.tokens a.to u v a.final (subst (λ l. Final x l a.to v) (sym e.0) (subst (λ l. Final x b.tokens l v) (sym e.1) b.final)))
    (λ l. absurd (⊎_elim (λ m. goes_on x u v a b m) (λ m. goes_on x v u b a m) l))
    (compare_tokens x a.tokens b.tokens 0 a.to b.to a.spans b.spans)

pub one_verdict : (x : List ℕ) → OneVerdict x
one_verdict x u v h k =
    ⊎_elim
    (λ a. ⊎_elim (λ b. says_once x u v a.1 b.1) (λ b. absurd (omega (arith, a.0, b.0))) k)
    (λ a. ⊎_elim (λ b. absurd (omega (arith, a.0, b.0))) (λ b. a.1 ∙ sym b.1) k)
    h
