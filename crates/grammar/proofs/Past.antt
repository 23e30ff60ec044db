-- What the grammar gives, the wants take; and every stack of wants can be met. Assumes nothing.
use Rattle.std.proofs.Common.{◌≡◌, ℕ, ◌+◌, ◌-◌, ◌<◌, ◌≤◌, Bool, true, false, List, [], ◌∷◌, ◌++◌, codes, sym, refl, subst, arith}
use Rattle.lexer.specs.Tokens.{Tok, opening, closing, word, quote}
use Rattle.form.specs.Form.{Form, Forms, Item, quote as quoted, set, out, seq, or, star, rep, start, end, nil, cons}
use Rattle.grammar.specs.Names.{name}
use Rattle.grammar.specs.Grammar.{deepest, largest, Kept, ItemsAt, FormAt, FormsAt, Text}
use Rattle.grammar.specs.declared.Head.TheVariants.{Set, Out, Seq, Or, Star, Rep, Start, End}
use Rattle.grammar.proofs.Wants.{Want, top, seek, form, forms, heading, item, items, shut, least, most, Steps, opens, seeks, form_opens, form_quotes, forms_opens, forms_quotes, forms_closes, heads, item_reads, items_reads, items_closes, shuts, least_reads, most_reads, Takes, none, one}

from : {k : Bool} {ts us : List Tok} {σ τ : List Want} → ts ≡ us → Takes k us σ τ → Takes k ts σ τ
from {k} {σ} {τ} e a = subst (λ v. Takes k v σ τ) (sym e) a

-- the want w begins as a form does, inside d brackets, and leaves ρ
record Begins (k : Bool) (d : ℕ) (w : Want) (ρ : List Want) : Type 0 where
  opens_it : Kept k (d < deepest) → Steps k w opening (heading (d + 1) ∷ ρ)
  quotes_it : (q : List ℕ) → Steps k w (quote q) ρ

form_begins : {k : Bool} {d : ℕ} → Begins k d (form d) []
form_begins = record { opens_it = λ h. form_opens h; quotes_it = λ q. form_quotes }

forms_begins : {k : Bool} {d : ℕ} → Begins k d (forms d) (forms d ∷ [])
forms_begins = record { opens_it = λ h. forms_opens h; quotes_it = λ q. forms_quotes }

pub past_items : {k : Bool} (is : List Item) {ts us : List Tok} {σ τ : List Want} → ItemsAt k is ts us → Takes k us σ τ → Takes k ts (items ∷ σ) τ
past_items [] a r = from a (one items_closes r)
past_items (i ∷ is) a r = from a.2 (one (items_reads i a.3 a.4) (past_items is a.5 r))

low : (k : Bool) (m n : ℕ) → Kept k ((m ≤ n) × (n ≤ largest)) → Kept k (m ≤ largest)
low true m n h = omega (arith, h.0, h.1)
low false m n h = tt

high : (k : Bool) (m n : ℕ) → Kept k ((m ≤ n) × (n ≤ largest)) → Kept k ((largest ≤ n + (largest - m)) × (n ≤ largest))
high true m n h = (omega (arith, h.0, h.1), h.1)
high false m n h = tt

mutual
  past_any : {k : Bool} {d : ℕ} {w : Want} {ρ : List Want} (f : Form) {ts us : List Tok} {σ τ : List Want} → Begins k d w ρ → FormAt k f d ts us → Takes k us (ρ ++ σ) τ → Takes k ts (w ∷ σ) τ
  past_any (quoted bytes) b a r = from a (one (b.quotes_it bytes) r)
  past_any (set []) b a r = absurd a
  past_any (set (i ∷ is)) b a r =
      from a.1.1 (one (b.opens_it a.1.0) (one (heads Set refl) (from a.2.2 (one (item_reads i a.2.3 a.2.4) (past_items is a.2.5 r)))))
  past_any (out is) b a r = from a.1.1 (one (b.opens_it a.1.0) (one (heads Out refl) (past_items is a.2 r)))
  past_any (seq fs) b a r = from a.1.1 (one (b.opens_it a.1.0) (one (heads Seq refl) (past_all fs a.2 r)))
  past_any (or fs) b a r = past_or fs b a r
  past_any (star f) b a r =
      from a.1.1 (one (b.opens_it a.1.0) (one (heads Star refl) (past_any f form_begins a.2 (one shuts r))))
  past_any {k} (rep m n f) b a r =
      from a.3.1 (one (b.opens_it a.3.0) (one (heads Rep refl) (one (least_reads m a.4 (low k m n a.6)) (one (most_reads n a.5 (high k m n a.6)) (past_any f form_begins a.7 (one shuts r))))))
  past_any start b a r = from a.1 (one (b.opens_it a.0) (one (heads Start refl) (one shuts r)))
  past_any end b a r = from a.1 (one (b.opens_it a.0) (one (heads End refl) (one shuts r)))

  past_or : {k : Bool} {d : ℕ} {w : Want} {ρ : List Want} (fs : Forms) {ts us : List Tok} {σ τ : List Want} → Begins k d w ρ → FormAt k (or fs) d ts us → Takes k us (ρ ++ σ) τ → Takes k ts (w ∷ σ) τ
  past_or nil b a r = absurd a
  past_or (cons f fs) b a r =
      from a.1.1 (one (b.opens_it a.1.0) (one (heads Or refl) (past_any f form_begins a.2.1 (past_all fs a.2.2 r))))

  pub past_all : {k : Bool} {d : ℕ} (fs : Forms) {ts us : List Tok} {σ τ : List Want} → FormsAt k fs d ts us → Takes k us σ τ → Takes k ts (forms d ∷ σ) τ
  past_all nil a r = from a (one forms_closes r)
  past_all (cons f fs) a r = past_any f forms_begins a.1 (past_all fs a.2 r)

pub past : {k : Bool} {d : ℕ} (f : Form) {ts us : List Tok} {σ τ : List Want} → FormAt k f d ts us → Takes k us σ τ → Takes k ts (form d ∷ σ) τ
past f a r = past_any f form_begins a r

pub past_text : {k : Bool} (f : Form) {ts : List Tok} → Text k f ts → Takes k ts (top ∷ []) []
past_text f a = from a.1.1 (one opens (one (seeks refl) (past f a.2 (one shuts none))))

kept : (k : Bool) {P : Type 0} → P → Kept k P
kept true p = p
kept false p = tt

pub completes : (k : Bool) (σ : List Want) → (ts : List Tok) × Takes k ts σ []
completes k [] = ([], none)
completes k (top ∷ σ) =
    let r = completes k σ in
    (opening ∷ word (codes "seek") ∷ quote [] ∷ closing ∷ r.0, one opens (one (seeks refl) (one form_quotes (one shuts r.1))))
completes k (seek ∷ σ) =
    let r = completes k σ in
    (word (codes "seek") ∷ quote [] ∷ closing ∷ r.0, one (seeks refl) (one form_quotes (one shuts r.1)))
completes k (form d ∷ σ) = let r = completes k σ in (quote [] ∷ r.0, one form_quotes r.1)
completes k (forms d ∷ σ) = let r = completes k σ in (closing ∷ r.0, one forms_closes r.1)
completes k (heading d ∷ σ) =
    let r = completes k σ in
    (word (name End) ∷ closing ∷ r.0, one (heads End refl) (one shuts r.1))
completes k (item ∷ σ) =
    let r = completes k σ in
    (word (codes "00") ∷ r.0, one (item_reads (record { low = 0; high = 0 }) refl (kept k (omega arith))) r.1)
completes k (items ∷ σ) = let r = completes k σ in (closing ∷ r.0, one items_closes r.1)
completes k (shut ∷ σ) = let r = completes k σ in (closing ∷ r.0, one shuts r.1)
completes k (least d ∷ σ) =
    let r = completes k σ in
    (word (codes "0") ∷ word (codes "255") ∷ quote [] ∷ closing ∷ r.0, one (least_reads 0 refl (kept k (omega arith))) (one (most_reads 255 refl (kept k (omega arith, omega arith))) (one form_quotes (one shuts r.1))))
completes k (most d s ∷ σ) =
    let r = completes k σ in
    (word (codes "255") ∷ quote [] ∷ closing ∷ r.0, one (most_reads 255 refl (kept k (omega arith, omega arith))) (one form_quotes (one shuts r.1)))
