-- How a refusal further on is one from here, by the tokens that the code reads. Assumes nothing.
-- Each call says that it keeps the text, so x, y and z are one.
use Rattle.std.proofs.Common.{◌≡◌, ℕ, ◌-◌, ◌<◌, ◌≤◌, Bool, true, false, ◌⊎◌, List, [], ◌∷◌, ◌++◌, length, Some, codes, Option, sym, refl, ap, ◌∙◌, subst, inl, inr, ⊎_elim, arith, Bor}
use Rattle.lexer.specs.declared.Token.{Token}
use Rattle.lexer.specs.declared.Token.TheVariants as token
use Rattle.lexer.specs.Tokens.{Tok, opening, closing, word, quote, Lexes, Stray, Tokens, Next}
use Rattle.form.specs.Form.{Item}
use Rattle.grammar.specs.Names.{name}
use Rattle.grammar.specs.declared.Head.{Head}
use Rattle.grammar.specs.Words.{item_of, number_of}
use Rattle.grammar.specs.Grammar.{deepest, largest}
use Rattle.grammar.specs.Verdicts.{Verdict, accepted, too_long, no_token, unexpected, bad_number, too_deep}
use Rattle.grammar.proofs.Wants.{Want, top, seek, form, forms, heading, item, items, shut, least, most, Steps, seeks, form_opens, form_quotes, forms_opens, forms_quotes, forms_closes, heads, item_reads, items_reads, items_closes, least_reads, most_reads, Takes, none, one, Wordy, Numeric}
use Rattle.grammar.proofs.Refusals.{Stuck, Fault, Refused}

at_once : {x : List ℕ} {p : ℕ} {σ : List Want} (v : Verdict) → Fault x p σ v → Refused x p σ v
at_once v f = record { tokens = []; to = _; left = _; spans = refl; takes = none; fault = f }

stuck_by : {k : Bool} {w : Want} {t : Tok} {σ ρ : List Want} → ((ks : List Want) → Steps k w t ks → ⊥) → Takes k (t ∷ []) (w ∷ σ) ρ → ⊥
stuck_by h (one s a) = h _ s

pub stray_at : (σ : List Want) {x y : List ℕ} {p s : ℕ} → y ≡ x → Stray y p s → Refused x p σ (no_token s)
stray_at σ {x} {y} {p} {s} same h = at_once (no_token s) (subst (λ v. Stray v p s) same h)

-- the same fault, in the text and at the place as the caller knows them
moved : (F : ℕ → Verdict) (σ : List Want) (x y : List ℕ) (p s z : ℕ) → y ≡ x → z ≡ s → Refused y p σ (F s) → Refused x p σ (F z)
moved F σ x y p s z same at r = subst (λ v. Refused v p σ (F z)) same (subst (λ v. Refused y p σ (F v)) (sym at) r)

-- the wants σ do not go on with the token t of the code
abbrev NotFor : List Want → Token → Type 0
NotFor σ token.Open = (ρ : List Want) → Takes false (opening ∷ []) σ ρ → ⊥
NotFor σ token.Close = (ρ : List Want) → Takes false (closing ∷ []) σ ρ → ⊥
NotFor σ (token.Word u) = (ρ : List Want) → Takes false (word u.now ∷ []) σ ρ → ⊥
NotFor σ (token.Quote q) = (ρ : List Want) → Takes false (quote q.now ∷ []) σ ρ → ⊥
NotFor σ token.End = σ ≡ [] → ⊥

stuck_token : (t : Tok) (σ : List Want) {x : List ℕ} {p s e : ℕ} → Lexes x p t s e → ((ρ : List Want) → Takes false (t ∷ []) σ ρ → ⊥) → Refused x p σ (unexpected s)
stuck_token t σ {s = s} {e = e} l n = at_once (unexpected s) (inl (t, record { past = e; lexes = l; never = n }))

refuse_here : (t : Token) (σ : List Want) (x : List ℕ) (p s e : ℕ) → NotFor σ t → Next t x p s e → Refused x p σ (unexpected s)
refuse_here token.Open σ x p s e n l = stuck_token opening σ l n
refuse_here token.Close σ x p s e n l = stuck_token closing σ l n
refuse_here (token.Word u) σ x p s e n l = stuck_token (word u.now) σ l n
refuse_here (token.Quote q) σ x p s e n l = stuck_token (quote q.now) σ l n
refuse_here token.End σ x p s e n l = at_once (unexpected s) (inr (l.0, l.1, n))

some_left : (w : Want) (σ : List Want) → (w ∷ σ) ≡ [] → ⊥
some_left w σ e = omega (arith, ap length e)

-- a word that the want does not take
pub refuse_word : (u : List ℕ) (w : Want) (σ : List Want) {x y : List ℕ} {p s e z : ℕ} → ((ks : List Want) → Steps false w (word u) ks → ⊥) → y ≡ x → Lexes y p (word u) s e → z ≡ s → Refused x p (w ∷ σ) (unexpected z)
refuse_word u w σ {x} {y} {p} {s} {e} {z} n same l at =
    moved unexpected (w ∷ σ) x y p s z same at (stuck_token (word u) (w ∷ σ) l (λ ρ a. stuck_by n a))

not_word : (w : Want) (t : Tok) {σ ρ : List Want} → Wordy w → ((u : List ℕ) → t ≡ word u → ⊥) → Takes false (t ∷ []) (w ∷ σ) ρ → ⊥
not_word w t b h a = stuck_by (λ ks s. let r = b.words false t ks s in h r.0 r.1) a

wordy_not : (t : Token) (w : Want) (σ : List Want) → Wordy w → ((u : Bor (List ℕ)) → t ≡ token.Word u → ⊥) → NotFor (w ∷ σ) t
wordy_not token.Open w σ b h = λ ρ a. not_word w opening b (λ u e. let z : ◌≡◌ {A = ℕ} 0 1 = cc in omega arith) a
wordy_not token.Close w σ b h = λ ρ a. not_word w closing b (λ u e. let z : ◌≡◌ {A = ℕ} 0 1 = cc in omega arith) a
wordy_not (token.Word u) w σ b h = absurd (h u refl)
wordy_not (token.Quote q) w σ b h = λ ρ a. not_word w (quote q.now) b (λ u e. let z : ◌≡◌ {A = ℕ} 0 1 = cc in omega arith) a
wordy_not token.End w σ b h = some_left w σ

form_not : (d : ℕ) (t : Token) (σ : List Want) → (t ≡ token.Open → ⊥) → ((q : Bor (List ℕ)) → t ≡ token.Quote q → ⊥) → NotFor (form d ∷ σ) t
form_not d token.Open σ h g = absurd (h refl)
form_not d token.Close σ h g = λ ρ a. stuck_by (λ ks s. elim s [ ]) a
form_not d (token.Word u) σ h g = λ ρ a. stuck_by (λ ks s. elim s [ ]) a
form_not d (token.Quote q) σ h g = absurd (g q refl)
form_not d token.End σ h g = some_left (form d) σ

shut_not : (t : Token) (σ : List Want) → (t ≡ token.Close → ⊥) → NotFor (shut ∷ σ) t
shut_not token.Open σ h = λ ρ a. stuck_by (λ ks s. elim s [ ]) a
shut_not token.Close σ h = absurd (h refl)
shut_not (token.Word u) σ h = λ ρ a. stuck_by (λ ks s. elim s [ ]) a
shut_not (token.Quote q) σ h = λ ρ a. stuck_by (λ ks s. elim s [ ]) a
shut_not token.End σ h = some_left shut σ

top_not : (t : Token) (σ : List Want) → (t ≡ token.Open → ⊥) → NotFor (top ∷ σ) t
top_not token.Open σ h = absurd (h refl)
top_not token.Close σ h = λ ρ a. stuck_by (λ ks s. elim s [ ]) a
top_not (token.Word u) σ h = λ ρ a. stuck_by (λ ks s. elim s [ ]) a
top_not (token.Quote q) σ h = λ ρ a. stuck_by (λ ks s. elim s [ ]) a
top_not token.End σ h = some_left top σ

more_not : (t : Token) → (t ≡ token.End → ⊥) → NotFor [] t
more_not token.Open h = λ ρ a. elim a [ ]
more_not token.Close h = λ ρ a. elim a [ ]
more_not (token.Word u) h = λ ρ a. elim a [ ]
more_not (token.Quote q) h = λ ρ a. elim a [ ]
more_not token.End h = absurd (h refl)

-- the token that came is not one of those that are wanted; nothing more is wanted where only the end goes on
module _ (t : Token) (x y : List ℕ) (p s e z : ℕ) (same : y ≡ x) (l : Next t y p s e) (at : z ≡ s) where
  refuse : (σ : List Want) → NotFor σ t → Refused x p σ (unexpected z)
  refuse σ n = moved unexpected σ x y p s z same at (refuse_here t σ y p s e n l)

  pub refuse_wordy : (w : Want) (σ : List Want) → Wordy w → ((u : Bor (List ℕ)) → t ≡ token.Word u → ⊥) → Refused x p (w ∷ σ) (unexpected z)
  refuse_wordy w σ b h = refuse (w ∷ σ) (wordy_not t w σ b h)

  pub refuse_form : (d : ℕ) (σ : List Want) → (t ≡ token.Open → ⊥) → ((q : Bor (List ℕ)) → t ≡ token.Quote q → ⊥) → Refused x p (form d ∷ σ) (unexpected z)
  refuse_form d σ h g = refuse (form d ∷ σ) (form_not d t σ h g)

  pub refuse_shut : (σ : List Want) → (t ≡ token.Close → ⊥) → Refused x p (shut ∷ σ) (unexpected z)
  refuse_shut σ h = refuse (shut ∷ σ) (shut_not t σ h)

  pub refuse_top : (σ : List Want) → (t ≡ token.Open → ⊥) → Refused x p (top ∷ σ) (unexpected z)
  refuse_top σ h = refuse (top ∷ σ) (top_not t σ h)

  pub refuse_more : (t ≡ token.End → ⊥) → Refused x p [] (unexpected z)
  refuse_more h = refuse [] (more_not t h)

too_deep_lem : (d : ℕ) → deepest ≤ d → (ks : List Want) → Steps true (form d) opening ks → ⊥
too_deep_lem d h ks (form_opens b) = omega arith

-- a bracket that would be too deep
pub refuse_deep : (d : ℕ) (σ : List Want) {x y : List ℕ} {p s e z : ℕ} → deepest ≤ d → y ≡ x → Lexes y p opening s e → z ≡ s → Refused x p (form d ∷ σ) (too_deep z)
refuse_deep d σ {x} {y} {p} {s} {e} {z} deep same l at =
    moved too_deep (form d ∷ σ) x y p s z same at (at_once (too_deep s) (record { past = e; lexes = l; never = λ ρ a. stuck_by (too_deep_lem d deep) a }, (_, one (form_opens tt) none)))

-- a word past its bounds
over_bound : (u : List ℕ) (w : Want) (σ : List Want) {x y : List ℕ} {p s e z : ℕ} (ks : List Want) → ((js : List Want) → Steps true w (word u) js → ⊥) → Steps false w (word u) ks → y ≡ x → Lexes y p (word u) s e → z ≡ s → Refused x p (w ∷ σ) (bad_number z)
over_bound u w σ {x} {y} {p} {s} {e} {z} ks h st same l at =
    moved bad_number (w ∷ σ) x y p s z same at (at_once (bad_number s) (u, (record { past = e; lexes = l; never = λ ρ a. stuck_by h a }, (_, one st none))))

pub refuse_number : (u : List ℕ) (w : Want) (m n : ℕ) (σ : List Want) {x y : List ℕ} {p s e z : ℕ} → Numeric w m → number_of u ≡ Some n → ((m ≤ n) × (n ≤ largest) → ⊥) → y ≡ x → Lexes y p (word u) s e → z ≡ s → Refused x p (w ∷ σ) (bad_number z)
refuse_number u w m n σ b is out = let a = b.any u n is in over_bound u w σ a.0 (λ js st. out (b.bounds u n js st is)) a.1

pub no_number : (u : List ℕ) (w : Want) (m : ℕ) → Numeric w m → ((n : ℕ) → number_of u ≡ Some n → ⊥) → (ks : List Want) → Steps false w (word u) ks → ⊥
no_number u w m b h ks s = let r = b.spells false u ks s in h r.0 r.1

same_item : {o : Option Item} (i j : Item) → o ≡ Some i → o ≡ Some j → i ≡ j
same_item i j p q = cc

no_rise : (u : List ℕ) (i : Item) → item_of u ≡ Some i → i.high < i.low → (ks : List Want) → Steps true item (word u) ks → ⊥
no_rise u i is falls ks (item_reads j e h) = let same = same_item i j is e in omega (arith, ap (λ v. v.low) same, ap (λ v. v.high) same)

pub refuse_falling : (u : List ℕ) (i : Item) (σ : List Want) {x y : List ℕ} {p s e z : ℕ} → item_of u ≡ Some i → i.high < i.low → y ≡ x → Lexes y p (word u) s e → z ≡ s → Refused x p (item ∷ σ) (bad_number z)
refuse_falling u i σ is falls = over_bound u item σ [] (no_rise u i is falls) (item_reads i is tt)

pub no_item : (u : List ℕ) → ((i : Item) → item_of u ≡ Some i → ⊥) → (ks : List Want) → Steps false item (word u) ks → ⊥
no_item u h ks (item_reads i e b) = h i e

pub no_head : (u : List ℕ) (d : ℕ) → ((h : Head) → u ≡ name h → ⊥) → (ks : List Want) → Steps false (heading d) (word u) ks → ⊥
no_head u d n ks (heads h e) = n h e

pub no_seek : (u : List ℕ) → (u ≡ codes "seek" → ⊥) → (ks : List Want) → Steps false seek (word u) ks → ⊥
no_seek u n ks (seeks e) = n e

-- which wants are wordy, and which are numeric
seek_words : {k : Bool} {t : Tok} {ks : List Want} → Steps k seek t ks → (u : List ℕ) × (t ≡ word u)
seek_words (seeks {w = w} e) = (w, refl)

pub seek_wordy : Wordy seek
seek_wordy = record { words = λ k t ks s. seek_words s }

heading_words : {k : Bool} {d : ℕ} {t : Tok} {ks : List Want} → Steps k (heading d) t ks → (u : List ℕ) × (t ≡ word u)
heading_words (heads {w = w} h e) = (w, refl)

pub heading_wordy : (d : ℕ) → Wordy (heading d)
heading_wordy d = record { words = λ k t ks s. heading_words s }

item_words : {k : Bool} {t : Tok} {ks : List Want} → Steps k item t ks → (u : List ℕ) × (t ≡ word u)
item_words (item_reads {w = w} i e h) = (w, refl)

pub item_wordy : Wordy item
item_wordy = record { words = λ k t ks s. item_words s }

least_words : {k : Bool} {d : ℕ} {t : Tok} {ks : List Want} → Steps k (least d) t ks → (u : List ℕ) × (t ≡ word u)
least_words (least_reads {w = w} m e h) = (w, refl)

most_words : {k : Bool} {d r : ℕ} {t : Tok} {ks : List Want} → Steps k (most d r) t ks → (u : List ℕ) × (t ≡ word u)
most_words (most_reads {w = w} m e h) = (w, refl)

same_number : {o : Option ℕ} (m n : ℕ) → o ≡ Some m → o ≡ Some n → m ≡ n
same_number m n p q = cc

least_spells : {k : Bool} {d : ℕ} {u : List ℕ} {ks : List Want} → Steps k (least d) (word u) ks → (n : ℕ) × (number_of u ≡ Some n)
least_spells (least_reads m e h) = (m, e)

least_bounds : {d : ℕ} {u : List ℕ} {ks : List Want} (n : ℕ) → Steps true (least d) (word u) ks → number_of u ≡ Some n → (0 ≤ n) × (n ≤ largest)
least_bounds n (least_reads m e h) is = let same = same_number m n e is in (omega arith, omega arith)

pub least_numeric : (d : ℕ) → Numeric (least d) 0
least_numeric d =
    record { wordy = record { words = λ k t ks s. least_words s }; spells = λ k u ks s. least_spells s; bounds = λ u n ks s e. least_bounds n s e; any = λ u n e. (_, least_reads n e tt) }

most_spells : {k : Bool} {d r : ℕ} {u : List ℕ} {ks : List Want} → Steps k (most d r) (word u) ks → (n : ℕ) × (number_of u ≡ Some n)
most_spells (most_reads m e h) = (m, e)

bounded : (d r : ℕ) (u : List ℕ) (ks : List Want) (n : ℕ) → Steps true (most d r) (word u) ks → number_of u ≡ Some n → (m : ℕ) → m ≤ largest → r ≡ largest - m → (m ≤ n) × (n ≤ largest)
bounded d r u ks n (most_reads j e h) is m b at = let same = same_number j n e is in (omega (arith, h.0, h.1), omega (arith, h.1))

most_bounds : {d : ℕ} (m : ℕ) {u : List ℕ} {ks : List Want} (n : ℕ) → m ≤ largest → Steps true (most d (largest - m)) (word u) ks → number_of u ≡ Some n → (m ≤ n) × (n ≤ largest)
most_bounds {d} m {u} {ks} n b s is = bounded d (largest - m) u ks n s is m b refl

pub most_numeric : (d m : ℕ) → m ≤ largest → Numeric (most d (largest - m)) m
most_numeric d m b =
    record { wordy = record { words = λ k t ks s. most_words s }; spells = λ k u ks s. most_spells s; bounds = λ u n ks s e. most_bounds m n b s e; any = λ u n e. (_, most_reads n e tt) }

-- one token on
pub on_token : (t : Tok) (w : Want) (ks σ : List Want) {x y : List ℕ} {p s e : ℕ} (v : Verdict) → Lexes x p t s e → Steps true w t ks → y ≡ x → Refused y e (ks ++ σ) v → Refused x p (w ∷ σ) v
on_token t w ks σ {x} {y} {p} {s} {e} v l st same f =
    let r = subst (λ u. Refused u e (ks ++ σ) v) same f in
    record { tokens = t ∷ r.tokens; to = r.to; left = r.left; spans = (_, _, l, r.spans); takes = one st r.takes; fault = r.fault }

-- past tokens that take the wants σ to τ, whatever follows
pub beyond : (P : List Tok → List Tok → Type 0) (σ τ : List Want) {x y z : List ℕ} {p q : ℕ} (v : Verdict) → ((ts us : List Tok) (ρ : List Want) → P ts us → Takes true us τ ρ → Takes true ts σ ρ) → z ≡ x → ((us : List Tok) (r : ℕ) → Tokens z us q r → (ts : List Tok) × Tokens z ts p r × P ts us) → y ≡ x → Refused y q τ v → Refused x p σ v
beyond P σ τ {x} {y} {z} {p} {q} v past here b there f =
    let r = subst (λ u. Refused u q τ v) (there ∙ sym here) f in
    let g = b r.tokens r.to r.spans in
    subst (λ u. Refused u p σ v) here (record { tokens = g.0; to = r.to; left = r.left; spans = g.1; takes = past g.0 r.tokens r.left g.2 r.takes; fault = r.fault })

stays : {σ τ : List Want} → Takes true [] σ τ → σ ≡ τ
stays none = refl

-- where no closing bracket comes, a list goes on as its next element does: A wants the element and then the list, B the list
module _ (A B : List Want) (back : (k : Bool) (t : Tok) (ts : List Tok) (ρ : List Want) → Takes k (t ∷ ts) A ρ → Takes k (t ∷ ts) B ρ) (forth : (k : Bool) (t : Tok) (ρ : List Want) → Takes k (t ∷ []) B ρ → (t ≡ closing) ⊎ Takes k (t ∷ []) A ρ) (some : B ≡ [] → ⊥) where
  list_stuck : (k : Bool) (x : List ℕ) (p : ℕ) (t : Tok) (s : ℕ) → ((s e : ℕ) → Lexes x p closing s e → ⊥) → Stuck k x p A t s → Stuck k x p B t s
  list_stuck k x p t s open-yet st =
      record { past = st.past; lexes = st.lexes; never = λ ρ a. ⊎_elim (λ c. open-yet s st.past (subst (λ v. Lexes x p v s st.past) c st.lexes)) (λ b. st.never ρ b) (forth k t ρ a) }

  list_fault : (x : List ℕ) (p : ℕ) (v : Verdict) → ((s e : ℕ) → Lexes x p closing s e → ⊥) → Fault x p A v → Fault x p B v
  list_fault x p (accepted f) open-yet h = h
  list_fault x p too_long open-yet h = h
  list_fault x p (no_token s) open-yet h = h
  list_fault x p (unexpected s) open-yet h = ⊎_elim (λ l. inl (l.0, list_stuck false x p l.0 s open-yet l.1)) (λ r. inr (r.0, r.1, some)) h
  list_fault x p (bad_number s) open-yet h = (h.0, (list_stuck true x p (word h.0) s open-yet h.1.0, (h.1.1.0, back false _ [] _ h.1.1.1)))
  list_fault x p (too_deep s) open-yet h = (list_stuck true x p opening s open-yet h.0, (h.1.0, back false _ [] _ h.1.1))

  list_from : (x : List ℕ) (p : ℕ) (v : Verdict) (ts : List Tok) (q : ℕ) (left : List Want) → ((s e : ℕ) → Lexes x p closing s e → ⊥) → Tokens x ts p q → Takes true ts A left → Fault x q left v → Refused x p B v
  list_from x p v [] q left open-yet here a f =
      at_once v (list_fault x p v open-yet (subst (λ u. Fault x p u v) (sym (stays a)) (subst (λ u. Fault x u left v) (sym here) f)))
  list_from x p v (t ∷ ts) q left open-yet here a f =
      record { tokens = t ∷ ts; to = q; left = left; spans = here; takes = back true t ts left a; fault = f }

  pub list_refused : (x y : List ℕ) (p : ℕ) (v : Verdict) → y ≡ x → ((s e : ℕ) → Lexes x p closing s e → ⊥) → Refused y p A v → Refused x p B v
  list_refused x y p v same open-yet f =
      let r = subst (λ u. Refused u p A v) same f in
      list_from x p v r.tokens r.to r.left open-yet r.spans r.takes r.fault

forms_back : (d : ℕ) (σ : List Want) (k : Bool) (t : Tok) (ts : List Tok) (ρ : List Want) → Takes k (t ∷ ts) (form d ∷ forms d ∷ σ) ρ → Takes k (t ∷ ts) (forms d ∷ σ) ρ
forms_back d σ k t ts ρ (one (form_opens h) a) = one (forms_opens h) a
forms_back d σ k t ts ρ (one form_quotes a) = one forms_quotes a

forms_forth : (d : ℕ) (σ : List Want) (k : Bool) (t : Tok) (ρ : List Want) → Takes k (t ∷ []) (forms d ∷ σ) ρ → (t ≡ closing) ⊎ Takes k (t ∷ []) (form d ∷ forms d ∷ σ) ρ
forms_forth d σ k t ρ (one (forms_opens h) a) = inr (one (form_opens h) a)
forms_forth d σ k t ρ (one forms_quotes a) = inr (one form_quotes a)
forms_forth d σ k t ρ (one forms_closes a) = inl refl

pub forms_refused : (d : ℕ) (σ : List Want) (x y : List ℕ) (p : ℕ) (v : Verdict) → y ≡ x → ((s e : ℕ) → Lexes x p closing s e → ⊥) → Refused y p (form d ∷ forms d ∷ σ) v → Refused x p (forms d ∷ σ) v
forms_refused d σ = list_refused (form d ∷ forms d ∷ σ) (forms d ∷ σ) (forms_back d σ) (forms_forth d σ) (some_left (forms d) σ)

items_back : (σ : List Want) (k : Bool) (t : Tok) (ts : List Tok) (ρ : List Want) → Takes k (t ∷ ts) (item ∷ items ∷ σ) ρ → Takes k (t ∷ ts) (items ∷ σ) ρ
items_back σ k t ts ρ (one (item_reads i e h) a) = one (items_reads i e h) a

items_forth : (σ : List Want) (k : Bool) (t : Tok) (ρ : List Want) → Takes k (t ∷ []) (items ∷ σ) ρ → (t ≡ closing) ⊎ Takes k (t ∷ []) (item ∷ items ∷ σ) ρ
items_forth σ k t ρ (one (items_reads i e h) a) = inr (one (item_reads i e h) a)
items_forth σ k t ρ (one items_closes a) = inl refl

pub items_refused : (σ : List Want) (x y : List ℕ) (p : ℕ) (v : Verdict) → y ≡ x → ((s e : ℕ) → Lexes x p closing s e → ⊥) → Refused y p (item ∷ items ∷ σ) v → Refused x p (items ∷ σ) v
items_refused σ = list_refused (item ∷ items ∷ σ) (items ∷ σ) (items_back σ) (items_forth σ) (some_left items σ)

pub past_least : (d m : ℕ) (σ : List Want) → m ≤ largest → (ts us : List Tok) (ρ : List Want) → ((w : List ℕ) × (ts ≡ word w ∷ us) × (number_of w ≡ Some m)) → Takes true us (most d (largest - m) ∷ σ) ρ → Takes true ts (least d ∷ σ) ρ
past_least d m σ b ts us ρ h a = subst (λ v. Takes true v (least d ∷ σ) ρ) (sym h.1) (one (least_reads m h.2 b) a)

pub past_item : (i : Item) (σ : List Want) → (ts us : List Tok) (ρ : List Want) → ((w : List ℕ) × (ts ≡ word w ∷ us) × (item_of w ≡ Some i) × (i.low ≤ i.high)) → Takes true us σ ρ → Takes true ts (item ∷ σ) ρ
past_item i σ ts us ρ h a = subst (λ v. Takes true v (item ∷ σ) ρ) (sym h.1) (one (item_reads i h.2 h.3) a)

pub past_counts : (d m n : ℕ) (σ : List Want) → (m ≤ n) × (n ≤ largest) → (ts us : List Tok) (ρ : List Want) → ((v : List ℕ) × (w : List ℕ) × (ts ≡ word v ∷ word w ∷ us) × (number_of v ≡ Some m) × (number_of w ≡ Some n)) → Takes true us (form d ∷ shut ∷ σ) ρ → Takes true ts (least d ∷ σ) ρ
past_counts d m n σ b ts us ρ h a =
    subst (λ v. Takes true v (least d ∷ σ) ρ) (sym h.2) (one (least_reads m h.3 (omega (arith, b.0, b.1))) (one (most_reads n h.4 (omega (arith, b.0, b.1), b.1)) a))
