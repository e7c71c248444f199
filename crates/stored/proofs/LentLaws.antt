-- The calls over a lent table, way out by way out. Assumes nothing.
use Prim.Native.Nat.{ℕ, ◌≤◌, ◌<◌}
use mathlib.Core.Path.{◌≡◌, refl, sym, ap, ap₂, ◌∙◌}
use mathlib.Core.Logic.{◌⊎◌, inl, inr}
use mathlib.Core.Bool.{Bool, true, false, cond, and-false}
use mathlib.Core.List.{List}
use lib.Dec.{eqb}
use lib.ListN.{length}
use borrow.Author.Tests.{eq-eqb, ne_eqb, le-leb, lt-leb}
use Rattle.std.specs.Prelude.{Result, Ok, Err}
use Rattle.answers.specs.declared.Refusal.{Refusal}
use Rattle.answers.specs.declared.Refusal.TheVariants.{Input}
use Rattle.answers.specs.Refusals.{number}
use Rattle.answers.specs.Answers.{number_told, exactly}
use Rattle.message.specs.Answers.{Written, Wrote}
use Rattle.table.specs.declared.Entry.{Entry}
use Rattle.desk.specs.declared.Desk.{Desk}
use Rattle.desk.specs.declared.Checked.{Checked}
use Rattle.desk.specs.Wrap.{unwritten, wraps}
use Rattle.stored.specs.Form.{table_in, table_out}
use Rattle.stored.specs.Lent.{lent_desk, no_key, table_fits, if_fits, table_after, Kept, check_fits, table_checked, slice_after, KeptChecked, wrap_fits, wraps_in}

pub desk_made : (ac smi smc : List ℕ) (packed : Bool) (b : List ℕ) (t : List Entry) → t ≡ table_in b
    → ◌≡◌ {A = Desk} (record { ac = ac; smi = smi; smc = smc; packed = packed; places = t }) (lent_desk ac smi smc packed b)
desk_made ac smi smc packed b t e = ap {B = Desk} (λ (x : List Entry). record { ac = ac; smi = smi; smc = smc; packed = packed; places = x }) e

-- whether what is lent fits
module _ (b : List ℕ) where
  pub table_not : (length b ≡ 1600 → ⊥) → table_fits b ≡ false
  unfolding table_fits
  table_not h = ne_eqb _ _ h

  pub table_so : length b ≡ 1600 → table_fits b ≡ true
  unfolding table_fits
  table_so h = eq-eqb _ _ h

  module _ (k : List ℕ) (n : ℕ) (o : List ℕ) where
    pub check_short : eqb (length k) 32 ≡ false → check_fits b k n o ≡ false
    unfolding check_fits
    check_short h = simp (h, and-false)

    pub check_misfit : (length b ≡ 1600 → ⊥) ⊎ ((1 < n) ⊎ (length o ≡ 8 → ⊥)) → check_fits b k n o ≡ false
    unfolding check_fits
    check_misfit (inl h) = simp (table_not h)
    check_misfit (inr (inl h)) = simp (lt-leb _ _ h, and-false)
    check_misfit (inr (inr h)) = simp (ne_eqb _ _ h, and-false)

    pub check_whole : length b ≡ 1600 → eqb (length k) 32 ≡ true → n ≤ 1 → length o ≡ 8 → check_fits b k n o ≡ true
    unfolding check_fits
    check_whole h i j l = simp (table_so h, i, le-leb _ _ j, eq-eqb _ _ l)

  module _ (k l : List ℕ) (n : ℕ) where
    pub wrap_short_smi : eqb (length k) 32 ≡ false → wrap_fits b k l n ≡ false
    unfolding wrap_fits
    wrap_short_smi h = simp (h, and-false)

    pub wrap_short_smc : eqb (length l) 32 ≡ false → wrap_fits b k l n ≡ false
    unfolding wrap_fits
    wrap_short_smc h = simp (h, and-false)

    pub wrap_misfit : (length b ≡ 1600 → ⊥) ⊎ (1 < n) → wrap_fits b k l n ≡ false
    unfolding wrap_fits
    wrap_misfit (inl h) = simp (table_not h)
    wrap_misfit (inr h) = simp (lt-leb _ _ h, and-false)

    pub wrap_whole : length b ≡ 1600 → eqb (length k) 32 ≡ true → eqb (length l) 32 ≡ true → n ≤ 1 → wrap_fits b k l n ≡ true
    unfolding wrap_fits
    wrap_whole h i j m = simp (table_so h, i, j, le-leb _ _ m)

-- a key that is lent
pub short : (n : ℕ) (s : List ℕ) (r : Result (List ℕ) Refusal) (q : Refusal) → r ≡ exactly n s → r ≡ Err q → (eqb (length s) n ≡ false) × (q ≡ Input)
short n s r q e f = go (eqb (length s) n) refl (sym e ∙ f)
  where
    go : (b : Bool) → eqb (length s) n ≡ b → cond b (Ok s) (Err Input) ≡ Err q → (eqb (length s) n ≡ false) × (q ≡ Input)
    go true w z = absurd (cc)
    go false w z = (w, cc)

pub whole : (n : ℕ) (s : List ℕ) (r : Result (List ℕ) Refusal) (k : List ℕ) → r ≡ exactly n s → r ≡ Ok k → (eqb (length s) n ≡ true) × (k ≡ s)
whole n s r k e f = go (eqb (length s) n) refl (sym e ∙ f)
  where
    go : (b : Bool) → eqb (length s) n ≡ b → cond b (Ok s) (Err Input) ≡ Ok k → (eqb (length s) n ≡ true) × (k ≡ s)
    go true w z = (w, cc)
    go false w z = absurd (cc)

-- what is lent does not fit, or the desk refuses, or it is done
pub lent_not : {A : Type 0} (f : Bool) (r : Result A Refusal) → f ≡ false → if_fits f r ≡ Err Input
lent_not f r h = ap (λ (x : Bool). if_fits x r) h

pub lent_so : {A : Type 0} (f : Bool) (r x : Result A Refusal) → f ≡ true → r ≡ x → if_fits f r ≡ x
lent_so f r x h e = ap (λ (y : Bool). if_fits y r) h ∙ e

pub kept_not : (t : Result Desk Refusal) (q : Refusal) (b : List ℕ) → t ≡ Err q → Kept t b (number q) b
kept_not t q b e = record { number = sym (ap (number_told {T = Desk}) e); table = sym (ap (λ (x : Result Desk Refusal). table_after x b) e) }

pub kept_so : (t : Result Desk Refusal) (d : Desk) (b x : List ℕ) → t ≡ Ok d → x ≡ table_out d.places → Kept t b 0 x
kept_so t d b x e f = record { number = sym (ap (number_told {T = Desk}) e); table = f ∙ sym (ap (λ (y : Result Desk Refusal). table_after y b) e) }

pub checked_not : (t : Result Checked Refusal) (q : Refusal) (b o : List ℕ) → t ≡ Err q → KeptChecked t b o (number q) b o
checked_not t q b o e =
    record {
      number = sym (ap (number_told {T = Checked}) e);
      table = sym (ap (λ (x : Result Checked Refusal). table_checked x b) e);
      slice = sym (ap (λ (x : Result Checked Refusal). slice_after x o) e);
    }

pub checked_so : (t : Result Checked Refusal) (d : Checked) (b o x g : List ℕ) → t ≡ Ok d → x ≡ table_out d.desk.places → g ≡ d.arpc → KeptChecked t b o 0 x g
checked_so t d b o x g e f h =
    record {
      number = sym (ap (number_told {T = Checked}) e);
      table = f ∙ sym (ap (λ (y : Result Checked Refusal). table_checked y b) e);
      slice = h ∙ sym (ap (λ (y : Result Checked Refusal). slice_after y o) e);
    }

-- wrapping
module _ (b k l : List ℕ) (n : ℕ) (pan : List ℕ) (q i : ℕ) (g pin o : List ℕ) (place : ℕ) where
  by_fit : (y : Bool) → wrap_fits b k l n ≡ y → wraps_in b k l n pan q i g pin o place ≡ cond y (wraps (lent_desk no_key k l (eqb n 1) b) pan q i g pin o place) (unwritten o Input)
  unfolding wraps_in
  by_fit y h = ap (λ (x : Bool). cond x (wraps (lent_desk no_key k l (eqb n 1) b) pan q i g pin o place) (unwritten o Input)) h

  pub wrap_unfit : wrap_fits b k l n ≡ false → Wrote (wraps_in b k l n pan q i g pin o place) 1 o
  wrap_unfit h =
      let z = by_fit false h in
      record { code = sym (ap (λ (x : Written). x.code) z); buffer = sym (ap (λ (x : Written). x.buffer) z) }

  pub wrap_as : wrap_fits b k l n ≡ true → (smi smc : List ℕ) (d : Desk) (r : ℕ) (x : List ℕ) → smi ≡ k → smc ≡ l
      → d ≡ lent_desk no_key smi smc (eqb n 1) b → Wrote (wraps d pan q i g pin o place) r x → Wrote (wraps_in b k l n pan q i g pin o place) r x
  wrap_as h smi smc d r x ek el ed w =
      let z : wraps d pan q i g pin o place ≡ wraps_in b k l n pan q i g pin o place =
      ap (λ (y : Desk). wraps y pan q i g pin o place) (ed ∙ ap₂ (λ (u v : List ℕ). lent_desk no_key u v (eqb n 1) b) ek el)
      ∙ sym (by_fit true h)
      in
      record { code = w.code ∙ ap (λ (y : Written). y.code) z; buffer = w.buffer ∙ ap (λ (y : Written). y.buffer) z }
