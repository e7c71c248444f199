-- One law for each way out of the desk's calls; what the crates below answer stands as a variable with its contract. Assumes nothing.
use Prim.Native.Nat.{ℕ, ◌≤◌}
use mathlib.Core.Path.{◌≡◌, refl, sym, ap, ap₂, ◌∙◌}
use mathlib.Core.Bool.{Bool, true, false, not, ◌&&◌, cond}
use mathlib.Core.List.{List, [], ◌∷◌, ◌++◌}
use lib.Dec.{eqb, ltb}
use lib.ListN.{length, get_or, drop, replicate}
use borrow.Author.Tests.{eq-eqb, not-true, not-false}
use Rattle.std.specs.Prelude.{Option, None, Some, Result, Ok, Err, is_ok}
use Rattle.answers.specs.declared.Refusal.{Refusal}
use Rattle.answers.specs.declared.Refusal.TheVariants.{Input, CardNumber, UnknownCard, ArqcDiffers, CounterNotAbove}
use Rattle.octets.specs.Same.{same}
use Rattle.octets.specs.Numbers.{be}
use Rattle.octets.proofs.Parts.{drop-zeros}
use Rattle.gost.specs.Gost.{subkeys}
use Rattle.derive.specs.Derivation.{derived, card_label}
use Rattle.derive.proofs.Laws.{length-derived}
use Rattle.keys.specs.CardNumber.{card_fits, Y, packed_y}
use Rattle.keys.specs.Answers.{card_key, card_key_packed, session_key, script_key}
use Rattle.keys.proofs.CardLaws.{fits}
use Rattle.keys.proofs.AnswerLaws.{card_is, packed_is, session_is, script_is}
use Rattle.cryptogram.specs.declared.Kind.TheVariants.{Arqc}
use Rattle.cryptogram.specs.Cryptogram.{cryptogram_of, arpc_of}
use Rattle.cryptogram.specs.Answers.{cryptogram_answer, arpc_answer}
use Rattle.cryptogram.proofs.AnswerLaws as cryptograms
use Rattle.table.specs.declared.CardId.{CardId}
use Rattle.table.specs.declared.Entry.{Entry}
use Rattle.table.specs.declared.Last.{Last}
use Rattle.table.specs.Table.{held}
use Rattle.table.specs.Calls.{adding, forgetting, keeping, reading}
use Rattle.table.specs.Acts.{last_of}
use Rattle.desk.specs.declared.Desk.{Desk}
use Rattle.desk.specs.declared.Checked.{Checked}
use Rattle.desk.specs.Desk.{id_of, master_key, told_by, adds, forgets}
use Rattle.desk.specs.Check.{counter_in, session_of, above, above_last, given_by, checks_right, checks_known, checks}
use Rattle.desk.specs.Wrap.{script_of}

pub id_made : (pan s : List ℕ) (q : ℕ) → s ≡ pan → record { digits = s ++ drop (length pan) (replicate 19 0); count = length pan; sequence = q } ≡ id_of pan q
unfolding id_of
id_made pan s q e = ap₂ (λ (x y : List ℕ). record { digits = x ++ y; count = length pan; sequence = q }) e (drop-zeros (length pan) 19)

pub card_small : (pan : List ℕ) (q : ℕ) (b : Bool) → b ≡ card_fits pan q → not b ≡ false → length pan ≤ 19
card_small pan q b e h = (fits pan q (sym e ∙ not-false b h)).most

pub card_good : (pan : List ℕ) (q : ℕ) (b : Bool) → b ≡ card_fits pan q → not b ≡ false → card_fits pan q ≡ true
card_good pan q b e h = sym e ∙ not-false b h

-- adding and forgetting
module _ (d : Desk) (pan : List ℕ) (q : ℕ) (b : Bool) (e : b ≡ card_fits pan q) where
  pub add-two : not b ≡ true → Err CardNumber ≡ adds d pan q
  unfolding adds
  add-two h = ap (λ (x : Bool). cond x (told_by d (adding (id_of pan q) d.places)) (Err CardNumber)) (sym (sym e ∙ not-true b h))

  pub forget_two : not b ≡ true → Err CardNumber ≡ forgets d pan q
  unfolding forgets
  forget_two h = ap (λ (x : Bool). cond x (told_by d (forgetting (id_of pan q) d.places)) (Err CardNumber)) (sym (sym e ∙ not-true b h))

  module _ (h : not b ≡ false) (c : CardId) (f : c ≡ id_of pan q) (r o : Result (List Entry) Refusal) (w : r ≡ o) where
    pub add_told : r ≡ adding c d.places → told_by d o ≡ adds d pan q
    unfolding adds
    add_told g =
        ap (told_by d) (sym w ∙ g ∙ ap (λ (k : CardId). adding k d.places) f)
        ∙ ap (λ (y : Bool). cond y (told_by d (adding (id_of pan q) d.places)) (Err CardNumber)) (sym (sym e ∙ not-false b h))

    pub forget_told : r ≡ forgetting c d.places → told_by d o ≡ forgets d pan q
    unfolding forgets
    forget_told g =
        ap (told_by d) (sym w ∙ g ∙ ap (λ (k : CardId). forgetting k d.places) f)
        ∙ ap (λ (y : Bool). cond y (told_by d (forgetting (id_of pan q) d.places)) (Err CardNumber)) (sym (sym e ∙ not-false b h))

-- an answer that is known to be accepted
pub is_given : {A : Type 0} (r : Result A Refusal) (x : A) → r ≡ Ok x → is_ok r ≡ true
is_given r x e = ap is_ok e

pub value_of : {A : Type 0} (r : Result A Refusal) (x y : A) → r ≡ Ok x → r ≡ Ok y → x ≡ y
value_of r x y e f = let z : Ok x ≡ Ok y = sym e ∙ f in cc

-- the keys and the counter
module _ (p : Bool) (key : List ℕ) (pan : List ℕ) (q : ℕ) (x : Result (List ℕ) Refusal) (h : length key ≡ 32) (f : card_fits pan q ≡ true) where
  pub packed_given : x ≡ card_key_packed key pan q → x ≡ Ok (derived key card_label (packed_y pan q))
  packed_given e = e ∙ packed_is key h pan q f

  pub pairs_given : x ≡ card_key key pan q → x ≡ Ok (derived key card_label (Y pan q))
  pairs_given e = e ∙ card_is key h pan q f

  pub master_packed : (m : List ℕ) → p ≡ true → x ≡ card_key_packed key pan q → x ≡ Ok m → m ≡ master_key p key pan q
  unfolding master_key
  master_packed m t e w = value_of x _ _ w (packed_given e) ∙ ap (λ (y : Bool). derived key card_label (cond y (packed_y pan q) (Y pan q))) (sym t)

  pub master_pairs : (m : List ℕ) → p ≡ false → x ≡ card_key key pan q → x ≡ Ok m → m ≡ master_key p key pan q
  unfolding master_key
  master_pairs m t e w = value_of x _ _ w (pairs_given e) ∙ ap (λ (y : Bool). derived key card_label (cond y (packed_y pan q) (Y pan q))) (sym t)

length_master : (p : Bool) (key pan : List ℕ) (q : ℕ) → length (master_key p key pan q) ≡ 32
unfolding master_key
length_master p key pan q = length-derived _ _ _

module _ (d : Desk) (pan : List ℕ) (q n : ℕ) (m : List ℕ) (x : Result (List ℕ) Refusal) (e : m ≡ master_key d.packed d.ac pan q) (f : x ≡ session_key m n) where
  pub session_given : x ≡ Ok (session_of d pan q n)
  unfolding session_of
  session_given = f ∙ ap (λ (k : List ℕ). session_key k n) e ∙ session_is (master_key d.packed d.ac pan q) (length_master _ _ _ _) n

  pub session_made : (k : List ℕ) → x ≡ Ok k → k ≡ session_of d pan q n
  session_made k w = value_of x _ _ w session_given

module _ (p : Bool) (key pan : List ℕ) (q : ℕ) (g m : List ℕ) (x : Result (List ℕ) Refusal) (l : length g ≡ 8) (e : m ≡ master_key p key pan q) (f : x ≡ script_key m g) where
  pub script_given : x ≡ Ok (script_of p key pan q g)
  unfolding script_of
  script_given = f ∙ ap (λ (k : List ℕ). script_key k g) e ∙ script_is (master_key p key pan q) (length_master _ _ _ _) g l

  pub script_made : (k : List ℕ) → x ≡ Ok k → k ≡ script_of p key pan q g
  script_made k w = value_of x _ _ w script_given

pub counter_made : (m : List ℕ) (r : ℕ) → r ≡ be (get_or m 31 0 ∷ get_or m 32 0 ∷ []) → r ≡ counter_in m
unfolding counter_in
counter_made m r e = e

-- above the last
module _ (t : List Entry) (c : CardId) (n : ℕ) (r : Result Last Refusal) (e : r ≡ reading c t) where
  above_told : (l : Last) → r ≡ Ok l → above (cond l.known (Some l.last) None) n ≡ above_last t c n
  unfolding above_last
  above_told l h = ap (λ (x : Result Last Refusal). above (last_of x) n) (sym h ∙ e)

  pub above_none : (l : Last) → r ≡ Ok l → not l.known ≡ true → true ≡ above_last t c n
  above_none l h k = go l.known k ∙ above_told l h
    where
      go : (b : Bool) → not b ≡ true → true ≡ above (cond b (Some l.last) None) n
      go true k = absurd (cc)
      go false k = refl

  pub above_some : (l : Last) → r ≡ Ok l → not l.known ≡ false → ltb l.last n ≡ above_last t c n
  above_some l h k = go l.known k ∙ above_told l h
    where
      go : (b : Bool) → not b ≡ false → ltb l.last n ≡ above (cond b (Some l.last) None) n
      go true k = refl
      go false k = absurd (cc)

  pub above_err : (q : Refusal) → r ≡ Err q → true ≡ above_last t c n
  unfolding above_last
  above_err q h = ap (λ (x : Result Last Refusal). above (last_of x) n) (sym h ∙ e)

-- a right code, a held card
module _ (d : Desk) (c : CardId) (key : List ℕ) (n : ℕ) (arqc csu : List ℕ) (b : Bool) (e : b ≡ above_last d.places c n) where
  abbrev right_by : Bool → Result Checked Refusal
  right_by x = cond x (given_by d (arpc_of (subkeys 8 key) arqc csu) (keeping c n d.places)) (Err CounterNotAbove)

  pub right_old : not b ≡ true → Err CounterNotAbove ≡ checks_right d c key n arqc csu
  unfolding checks_right
  right_old h = ap right_by (sym (sym e ∙ not-true b h))

  module _ (h : not b ≡ false) (k o : Result (List Entry) Refusal) (f : k ≡ keeping c n d.places) (w : k ≡ o) where
    pub right_new : given_by d (arpc_of (subkeys 8 key) arqc csu) o ≡ checks_right d c key n arqc csu
    unfolding checks_right
    right_new = ap (given_by d (arpc_of (subkeys 8 key) arqc csu)) (sym w ∙ f) ∙ ap right_by (sym (sym e ∙ not-false b h))

module _ (key arqc csu : List ℕ) (a : Result (List ℕ) Refusal) (l1 : length key ≡ 32) (l2 : length arqc ≡ 8) (l3 : length csu ≡ 4) (g : a ≡ arpc_answer key arqc csu) where
  pub arpc_given : a ≡ Ok (arpc_of (subkeys 8 key) arqc csu)
  arpc_given = g ∙ sym (cryptograms.arpc_made key arqc csu l1 l2 l3)

  pub arpc_is : (x : List ℕ) → a ≡ Ok x → x ≡ arpc_of (subkeys 8 key) arqc csu
  arpc_is x w = value_of a _ _ w arpc_given

module _ (key : List ℕ) (n : ℕ) (m : List ℕ) (g : Result (List ℕ) Refusal) (k : length key ≡ 32) (l : length m ≡ 65) (f : g ≡ cryptogram_answer key Arqc n m) where
  pub arqc_given : g ≡ Ok (cryptogram_of (subkeys 8 key) Arqc n m)
  arqc_given = f ∙ sym (cryptograms.made key Arqc n m k l)

  pub arqc_made : (x : List ℕ) → g ≡ Ok x → x ≡ cryptogram_of (subkeys 8 key) Arqc n m
  arqc_made x w = value_of g _ _ w arqc_given

module _ (d : Desk) (c : CardId) (key : List ℕ) (n : ℕ) (m arqc csu own : List ℕ) (f : own ≡ cryptogram_of (subkeys 8 key) Arqc n m) (b : Bool) (e : b ≡ same own arqc) where
  known_by : (x : Bool) → b ≡ x → same (cryptogram_of (subkeys 8 key) Arqc n m) arqc ≡ x
  known_by x h = sym (ap (λ (y : List ℕ). same y arqc) f) ∙ sym e ∙ h

  pub known_wrong : not b ≡ true → Err ArqcDiffers ≡ checks_known d c key n m arqc csu
  unfolding checks_known
  known_wrong h = ap (λ (x : Bool). cond x (checks_right d c key n arqc csu) (Err ArqcDiffers)) (sym (known_by false (not-true b h)))

  pub known_right : not b ≡ false → (r : Result Checked Refusal) → r ≡ checks_right d c key n arqc csu → r ≡ checks_known d c key n m arqc csu
  unfolding checks_known
  known_right h r z = z ∙ ap (λ (x : Bool). cond x (checks_right d c key n arqc csu) (Err ArqcDiffers)) (sym (known_by true (not-false b h)))

-- the whole check
abbrev checks_by : Bool → Bool → Bool → Result Checked Refusal → Result Checked Refusal
checks_by l f h x = cond l (cond f (cond h x (Err UnknownCard)) (Err CardNumber)) (Err Input)

module _ (d : Desk) (pan : List ℕ) (q : ℕ) (m arqc csu : List ℕ) where
  abbrev long : Bool
  long = eqb (length m) 65 && (eqb (length arqc) 8 && eqb (length csu) 4)

  abbrev rest : Result Checked Refusal
  rest = checks_known d (id_of pan q) (session_of d pan q (counter_in m)) (counter_in m) m arqc csu

  as_tests : (l f h : Bool) → long ≡ l → card_fits pan q ≡ f → held (id_of pan q) d.places ≡ h → checks_by l f h rest ≡ checks d pan q m arqc csu
  unfolding checks
  as_tests l f h e1 e2 e3 =
      ap (λ (x : Bool). checks_by x f h rest) (sym e1)
      ∙ ap (λ (x : Bool). checks_by long x h rest) (sym e2)
      ∙ ap (λ (x : Bool). checks_by long (card_fits pan q) x rest) (sym e3)

  module _ (h1 : length m ≡ 65) (h2 : length arqc ≡ 8) (h3 : length csu ≡ 4) (b : Bool) (e : b ≡ card_fits pan q) where
    is_long : long ≡ true
    is_long = simp (eq-eqb (length m) 65 h1, eq-eqb (length arqc) 8 h2, eq-eqb (length csu) 4 h3)

    pub check_two : not b ≡ true → Err CardNumber ≡ checks d pan q m arqc csu
    check_two h = as_tests true false _ is_long (sym e ∙ not-true b h) refl

    module _ (h4 : not b ≡ false) (c : CardId) (f : c ≡ id_of pan q) (k : Bool) (g : k ≡ held c d.places) where
      by : (x : Bool) → k ≡ x → held (id_of pan q) d.places ≡ x
      by x w = sym (ap (λ (y : CardId). held y d.places) f) ∙ sym g ∙ w

      pub check_unknown : not k ≡ true → Err UnknownCard ≡ checks d pan q m arqc csu
      check_unknown h = as_tests true true false is_long (sym e ∙ not-false b h4) (by false (not-true k h))

      pub check_held : not k ≡ false → (n : ℕ) → n ≡ counter_in m → (s : List ℕ) → s ≡ session_of d pan q n → (r : Result Checked Refusal) → r ≡ checks_known d c s n m arqc csu
          → r ≡ checks d pan q m arqc csu
      check_held h n u s v r z =
          z
          ∙ ap₂ (λ (y : CardId) (j : List ℕ). checks_known d y j n m arqc csu) f v
          ∙ ap (λ (j : ℕ). checks_known d (id_of pan q) (session_of d pan q j) j m arqc csu) u
          ∙ as_tests true true true is_long (sym e ∙ not-false b h4) (by true (not-false k h))
