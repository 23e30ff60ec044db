-- What the wants take, the grammar gives. Assumes nothing.
use Rattle.std.proofs.Common.{◌≡◌, ℕ, zero, suc, ◌+◌, ◌-◌, ◌<◌, ◌≤◌, Bool, true, false, List, [], ◌∷◌, length, Some, codes, refl, ap, ◌∙◌, subst, arith}
use Rattle.lexer.specs.Tokens.{Tok, opening, closing, word}
use Rattle.form.specs.Form.{Form, Forms, Item, quote as quoted, set, out, seq, or, star, rep, start, end, nil, cons}
use Rattle.grammar.specs.Words.{item_of, number_of}
use Rattle.grammar.specs.Grammar.{deepest, largest, Kept, Headed, ItemsAt, FormAt, FormsAt, Text}
use Rattle.grammar.specs.declared.Head.TheVariants.{Set, Out, Seq, Or, Star, Rep, Start, End}
use Rattle.grammar.proofs.Wants.{Want, top, seek, form, forms, heading, item, items, shut, least, most, opens, seeks, form_opens, form_quotes, forms_opens, forms_quotes, forms_closes, heads, item_reads, items_reads, items_closes, shuts, least_reads, most_reads, Takes, none, one}

-- the tokens ts begin with what the want w asks for, and us are left
abbrev Met : Bool → Want → List Tok → List Tok → Type 0
Met k top ts us = (f : Form) × (vs : List Tok) × Headed k (codes "seek") 0 ts vs × FormAt k f 1 vs (closing ∷ us)
Met k seek ts us = (f : Form) × (vs : List Tok) × (ts ≡ word (codes "seek") ∷ vs) × FormAt k f 1 vs (closing ∷ us)
Met k (form d) ts us = (f : Form) × FormAt k f d ts us
Met k (forms d) ts us = (fs : Forms) × FormsAt k fs d ts us
Met k (heading d) ts us = (f : Form) × ((c : ℕ) → d ≡ c + 1 → Kept k (c < deepest) → FormAt k f c (opening ∷ ts) us)
Met k item ts us = (i : Item) × (w : List ℕ) × (ts ≡ word w ∷ us) × (item_of w ≡ Some i) × Kept k (i.low ≤ i.high)
Met k items ts us = (is : List Item) × ItemsAt k is ts us
Met k shut ts us = ts ≡ closing ∷ us
Met k (least d) ts us =
    (v : List ℕ) × (w : List ℕ) × (vs : List Tok) × (m : ℕ) × (n : ℕ) × (f : Form) × (ts ≡ word v ∷ word w ∷ vs)
    × (number_of v ≡ Some m) × (number_of w ≡ Some n) × Kept k ((m ≤ n) × (n ≤ largest)) × FormAt k f d vs (closing ∷ us)
Met k (most d r) ts us =
    (w : List ℕ) × (vs : List Tok) × (n : ℕ) × (f : Form) × (ts ≡ word w ∷ vs)
    × (number_of w ≡ Some n) × Kept k ((largest ≤ n + r) × (n ≤ largest)) × FormAt k f d vs (closing ∷ us)

record Got (k : Bool) (w : Want) (ts : List Tok) (σ : List Want) : Type 0 where
  left : List Tok
  meets : Met k w ts left
  takes : Takes k left σ []
  shorter : length left < length ts

kept : (k : Bool) {P : Type 0} → P → Kept k P
kept true p = p
kept false p = tt

between : (k : Bool) (m n : ℕ) → Kept k (m ≤ largest) → Kept k ((largest ≤ n + (largest - m)) × (n ≤ largest)) → Kept k ((m ≤ n) × (n ≤ largest))
between true m n h g = (omega (arith, h, g.0, g.1), g.1)
between false m n h g = tt

met : (k : Bool) (n : ℕ) {ts : List Tok} {w : Want} {σ : List Want} → length ts ≤ n → Takes k ts (w ∷ σ) [] → Got k w ts σ
met k zero l (one s a) = absurd (omega arith)
met k (suc n) l (one opens a) =
    let g = met k n (omega arith) a in
    record { left = g.left; meets = (g.meets.0, g.meets.1, (kept k (omega arith), ap (λ v. opening ∷ v) g.meets.2), g.meets.3); takes = g.takes; shorter = omega arith }
met k (suc n) l (one {ts = ts} (seeks e) a) =
    let g = met k n (omega arith) a in
    let h = met k n (omega arith) g.takes in
    record { left = h.left; meets = (g.meets.0, ts, ap (λ v. word v ∷ ts) e, subst (λ v. FormAt k g.meets.0 1 ts v) h.meets g.meets.1); takes = h.takes; shorter = omega arith }
met k (suc n) l (one {ts = ts} (form_opens {d = d} b) a) =
    let g = met k n (omega arith) a in
    record { left = g.left; meets = (g.meets.0, g.meets.1 d refl b); takes = g.takes; shorter = omega arith }
met k (suc n) l (one {ts = ts} (form_quotes {q = q}) a) =
    record { left = ts; meets = (quoted q, refl); takes = a; shorter = omega arith }
met k (suc n) l (one {ts = ts} (forms_opens {d = d} b) a) =
    let g = met k n (omega arith) a in
    let h = met k n (omega arith) g.takes in
    record { left = h.left; meets = (cons g.meets.0 h.meets.0, (g.left, g.meets.1 d refl b, h.meets.1)); takes = h.takes; shorter = omega arith }
met k (suc n) l (one {ts = ts} (forms_quotes {q = q}) a) =
    let g = met k n (omega arith) a in
    record { left = g.left; meets = (cons (quoted q) g.meets.0, (ts, refl, g.meets.1)); takes = g.takes; shorter = omega arith }
met k (suc n) l (one {ts = ts} forms_closes a) = record { left = ts; meets = (nil, refl); takes = a; shorter = omega arith }
met k (suc n) l (one {ts = ts} (heads Set e) a) =
    let g = met k n (omega arith) a in
    let h = met k n (omega arith) g.takes in
    record { left = h.left; meets = (set (g.meets.0 ∷ h.meets.0), λ c at b. (ts, (b, ap (λ u. opening ∷ word u ∷ ts) e), (g.meets.1, g.left, g.meets.2, g.meets.3, g.meets.4, h.meets.1))); takes = h.takes; shorter = omega arith }
met k (suc n) l (one {ts = ts} (heads Out e) a) =
    let g = met k n (omega arith) a in
    record { left = g.left; meets = (out g.meets.0, λ c at b. (ts, (b, ap (λ u. opening ∷ word u ∷ ts) e), g.meets.1)); takes = g.takes; shorter = omega arith }
met k (suc n) l (one {ts = ts} (heads Seq e) a) =
    let g = met k n (omega arith) a in
    record { left = g.left; meets = (seq g.meets.0, λ c at b. (ts, (b, ap (λ u. opening ∷ word u ∷ ts) e), subst (λ v. FormsAt k g.meets.0 v ts g.left) at g.meets.1)); takes = g.takes; shorter = omega arith }
met k (suc n) l (one {ts = ts} (heads Or e) a) =
    let g = met k n (omega arith) a in
    let h = met k n (omega arith) g.takes in
    record { left = h.left; meets = (or (cons g.meets.0 h.meets.0), λ c at b. (ts, (b, ap (λ u. opening ∷ word u ∷ ts) e), (g.left, subst (λ v. FormAt k g.meets.0 v ts g.left) at g.meets.1, subst (λ v. FormsAt k h.meets.0 v g.left h.left) at h.meets.1))); takes = h.takes; shorter = omega arith }
met k (suc n) l (one {ts = ts} (heads {d = d} Star e) a) =
    let g = met k n (omega arith) a in
    let h = met k n (omega arith) g.takes in
    record { left = h.left; meets = (star g.meets.0, λ c at b. (ts, (b, ap (λ u. opening ∷ word u ∷ ts) e), subst (λ v. FormAt k g.meets.0 v ts (closing ∷ h.left)) at (subst (λ v. FormAt k g.meets.0 d ts v) h.meets g.meets.1))); takes = h.takes; shorter = omega arith }
met k (suc n) l (one {ts = ts} (heads Rep e) a) =
    let g = met k n (omega arith) a in
    let m = g.meets in
    record { left = g.left; meets = (rep m.3 m.4 m.5, λ c at b. (m.0, m.1, m.2, (b, ap (λ u. opening ∷ word u ∷ ts) e ∙ ap (λ u. opening ∷ word (codes "rep") ∷ u) m.6), m.7, m.8, m.9, subst (λ v. FormAt k m.5 v m.2 (closing ∷ g.left)) at m.10)); takes = g.takes; shorter = omega arith }
met k (suc n) l (one {ts = ts} (heads Start e) a) =
    let g = met k n (omega arith) a in
    record { left = g.left; meets = (start, λ c at b. (b, ap (λ u. opening ∷ word u ∷ ts) e ∙ ap (λ u. opening ∷ word (codes "start") ∷ u) g.meets)); takes = g.takes; shorter = omega arith }
met k (suc n) l (one {ts = ts} (heads End e) a) =
    let g = met k n (omega arith) a in
    record { left = g.left; meets = (end, λ c at b. (b, ap (λ u. opening ∷ word u ∷ ts) e ∙ ap (λ u. opening ∷ word (codes "end") ∷ u) g.meets)); takes = g.takes; shorter = omega arith }
met k (suc n) l (one {ts = ts} (item_reads {w = w} i e h) a) = record { left = ts; meets = (i, w, refl, e, h); takes = a; shorter = omega arith }
met k (suc n) l (one {ts = ts} (items_reads {w = w} i e h) a) =
    let g = met k n (omega arith) a in
    record { left = g.left; meets = (i ∷ g.meets.0, (w, ts, refl, e, h, g.meets.1)); takes = g.takes; shorter = omega arith }
met k (suc n) l (one {ts = ts} items_closes a) = record { left = ts; meets = ([], refl); takes = a; shorter = omega arith }
met k (suc n) l (one {ts = ts} shuts a) = record { left = ts; meets = refl; takes = a; shorter = omega arith }
met k (suc n) l (one {ts = ts} (least_reads {w = v} m e h) a) =
    let g = met k n (omega arith) a in
    let r = g.meets in
    record { left = g.left; meets = (v, r.0, r.1, m, r.2, r.3, ap (λ u. word v ∷ u) r.4, e, r.5, between k m r.2 h r.6, r.7); takes = g.takes; shorter = omega arith }
met k (suc n) l (one {ts = ts} (most_reads {d = d} {w = w} m e h) a) =
    let g = met k n (omega arith) a in
    let c = met k n (omega arith) g.takes in
    record { left = c.left; meets = (w, ts, m, g.meets.0, refl, e, h, subst (λ v. FormAt k g.meets.0 d ts v) c.meets g.meets.1); takes = c.takes; shorter = omega arith }

gone : {k : Bool} {ts : List Tok} → Takes k ts [] [] → ts ≡ []
gone none = refl

pub text_met : (k : Bool) (ts : List Tok) → Takes k ts (top ∷ []) [] → (f : Form) × Text k f ts
text_met k ts a =
    let g = met k (length ts) (omega arith) a in
    let m = g.meets in
    (m.0, (m.1, m.2, subst (λ v. FormAt k m.0 1 m.1 (closing ∷ v)) (gone g.takes) m.3))
