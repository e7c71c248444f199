-- Which command a header, a tag and a length are for, test by test and exactly. Assumes nothing.
use mathlib.Core.Path.{◌≡◌, refl, sym, ap, ◌∙◌}
use mathlib.Core.Bool.{Bool, true, false, cond, and-eq-true_iff}
use mathlib.Core.List.{List, [], ◌∷◌}
use Prim.Native.Nat.{ℕ, ◌≤◌}
use native.Mathlib.Omega.{arith}
use Rattle.std.specs.Prelude.{Some, Result, Ok, Err}
use Rattle.std.specs.List.{find}
use Rattle.std.specs.Option.{ok_or}
use borrow.Author.Tests.{eqb-true}
use lib.Dec.{eqb, lit≤}
use lib.ListN.{length}
use Rattle.answers.specs.declared.Refusal.{Refusal}
use Rattle.answers.specs.declared.Refusal.TheVariants.{NotListed}
use Rattle.answers.specs.Refusals.{number}
use Rattle.octets.specs.Same.{same}
use Rattle.octets.proofs.SameLaws.{same_true}
use Rattle.shapes.specs.declared.command.Command.{Command}
use Rattle.shapes.specs.declared.command.Command.TheVariants.{SetPin, SetMark, ClearMark}
use Rattle.shapes.specs.Length.{largest, largest_short}
use Rattle.shapes.specs.Shape.{tag_fits}
use Rattle.shapes.specs.Command.{header_of, tag_for, length_for, is_for, listed, first_of, command_of, refusal, number_for, Lists}

module _ (k : Command) (header : List ℕ) (tag n : ℕ) where
  module _ (own : List ℕ) (e : own ≡ header_of k) (t : Bool) (f : t ≡ same header own) where
    own_header : t ≡ same header (header_of k)
    own_header = f ∙ ap (same header) e

    pub not_header : (v : Bool) → v ≡ t → v ≡ false → v ≡ is_for k header tag n
    unfolding is_for
    not_header v e h = h ∙ sym (simp (sym own_header ∙ sym e ∙ h))

    module _ (h : t ≡ true) (x : ℕ) (g : x ≡ tag_for k) (v : Bool) (i : v ≡ eqb tag x) where
      own_tag : v ≡ eqb tag (tag_for k)
      own_tag = i ∙ ap (eqb tag) g

      pub not_tag : v ≡ false → v ≡ is_for k header tag n
      unfolding is_for
      not_tag j = j ∙ sym (simp (sym own_header ∙ h, sym own_tag ∙ j))

      pub its_header : v ≡ true → (y : ℕ) → y ≡ length_for k → eqb n y ≡ is_for k header tag n
      unfolding is_for
      its_header j y l = simp (sym own_header ∙ h, sym own_tag ∙ j, l)

-- the first that a search finds, or none
pub found_first : (cs : List Command) (header : List ℕ) (tag n : ℕ) → ok_or (find (λ k. is_for k header tag n) cs) NotListed ≡ first_of cs header tag n
unfolding first_of
found_first [] header tag n = refl
found_first (c ∷ cs) header tag n = go (is_for c header tag n) (found_first cs header tag n)
  where
    go : (b : Bool) → ok_or (find (λ k. is_for k header tag n) cs) NotListed ≡ first_of cs header tag n
        → ok_or (cond b (Some c) (find (λ k. is_for k header tag n) cs)) NotListed ≡ cond b (Ok c) (first_of cs header tag n)
    go true e = refl
    go false e = e

-- header, tag and length of a command
abbrev pub Its : Command → List ℕ → ℕ → ℕ → Type 0
Its k header tag n = (header ≡ header_of k) × (tag ≡ tag_for k) × (n ≡ length_for k)

is_its : (k : Command) (header : List ℕ) (tag n : ℕ) → is_for k header tag n ≡ true → Its k header tag n
unfolding is_for
is_its k header tag n e =
    let a = (and-eq-true_iff (same header (header_of k)) _).0 e in
    let b = (and-eq-true_iff (eqb tag (tag_for k)) _).0 a.1 in
    (same_true _ _ a.0, eqb-true _ _ b.0, eqb-true _ _ b.1)

-- a command that is found is the one that the bytes say
pub listed_its : (header : List ℕ) (tag n : ℕ) (k : Command) → command_of header tag n ≡ Ok k → Its k header tag n
unfolding first_of listed
listed_its header tag n k e = go (is_for SetPin header tag n) refl (is_for SetMark header tag n) refl (is_for ClearMark header tag n) refl e
  where
    found : (j : Command) → is_for j header tag n ≡ true → ◌≡◌ {A = Result Command Refusal} (Ok j) (Ok k) → Its k header tag n
    found j f w = let z : j ≡ k = cc in is_its k header tag n (ap (λ (i : Command). is_for i header tag n) (sym z) ∙ f)

    go : (a : Bool) → is_for SetPin header tag n ≡ a → (b : Bool) → is_for SetMark header tag n ≡ b → (c : Bool) → is_for ClearMark header tag n ≡ c
        → cond a (Ok SetPin) (cond b (Ok SetMark) (cond c (Ok ClearMark) (Err NotListed))) ≡ Ok k → Its k header tag n
    go true f b g c h w = found SetPin f w
    go false f true g c h w = found SetMark g w
    go false f false g true h w = found ClearMark h w
    go false f false g false h w = let z : ◌≡◌ {A = ℕ} 0 1 = cc in absurd (omega arith)

-- and each is found by its bytes
pub its_listed : (k : Command) → command_of (header_of k) (tag_for k) (length_for k) ≡ Ok k
unfolding first_of listed is_for header_of tag_for length_for same
its_listed SetPin = refl
its_listed SetMark = refl
its_listed ClearMark = refl

-- why header, tag and length are no command's
why_first : (cs : List Command) (header : List ℕ) (tag n : ℕ) (q : Refusal) → first_of cs header tag n ≡ Err q → q ≡ NotListed
unfolding first_of
why_first [] header tag n q e = cc
why_first (c ∷ cs) header tag n q e = go (is_for c header tag n) (why_first cs header tag n q) e
  where
    go : (b : Bool) → (first_of cs header tag n ≡ Err q → q ≡ NotListed) → cond b (Ok c) (first_of cs header tag n) ≡ Err q → q ≡ NotListed
    go true f w = let z : ◌≡◌ {A = ℕ} 0 1 = cc in absurd (omega arith)
    go false f w = f w

pub why_unlisted_lem : (header : List ℕ) (tag n : ℕ) (q : Refusal) → command_of header tag n ≡ Err q → q ≡ NotListed
why_unlisted_lem header tag n q e = why_first listed header tag n q e

number_first : (cs : List Command) (header : List ℕ) (tag n : ℕ) → refusal (first_of cs header tag n) ≡ number_for cs header tag n
unfolding first_of
number_first [] header tag n = refl
number_first (c ∷ cs) header tag n = go (is_for c header tag n) (number_first cs header tag n)
  where
    go : (b : Bool) → refusal (first_of cs header tag n) ≡ number_for cs header tag n
        → refusal (cond b (Ok c) (first_of cs header tag n)) ≡ cond b 0 (number_for cs header tag n)
    go true e = refl
    go false e = e

pub lists : {r : Result Command Refusal} {header : List ℕ} {tag n : ℕ} → r ≡ command_of header tag n → Lists r header tag n
lists {r} {header} {tag} {n} e = record { is = e; its_number = ap refusal e ∙ number_first listed header tag n }

-- the numbers: 0 of a command, 5 where header, tag and length are no command's
pub accepted_listed : (k : Command) → refusal (command_of (header_of k) (tag_for k) (length_for k)) ≡ 0
accepted_listed k = ap refusal (its_listed k)

pub refused_unlisted : (header : List ℕ) (tag n : ℕ) → ((k : Command) → Its k header tag n → ⊥) → refusal (command_of header tag n) ≡ 5
refused_unlisted header tag n h = go (command_of header tag n) refl
  where
    go : (l : Result Command Refusal) → command_of header tag n ≡ l → refusal l ≡ 5
    go (Ok k) e = absurd (h k (listed_its header tag n k e))
    go (Err q) e = ap number (why_unlisted_lem header tag n q e)

-- a command's header is 4 bytes, its tag one of the two, its L short
pub header_four : (k : Command) → length (header_of k) ≡ 4
unfolding header_of
header_four SetPin = refl
header_four SetMark = refl
header_four ClearMark = refl

pub tag_listed : (k : Command) → tag_fits (tag_for k) ≡ true
unfolding tag_for tag_fits
tag_listed SetPin = refl
tag_listed SetMark = refl
tag_listed ClearMark = refl

pub length-is : (length_for SetPin ≡ 8) × (length_for SetMark ≡ 0) × (length_for ClearMark ≡ 0)
unfolding length_for
length-is = (refl, refl, refl)

pub length-short : (k : Command) → (length_for k ≤ largest_short) × (length_for k ≤ largest)
unfolding length_for largest_short largest
length-short SetPin = (lit≤ tt, lit≤ tt)
length-short SetMark = (lit≤ tt, lit≤ tt)
length-short ClearMark = (lit≤ tt, lit≤ tt)

-- header and tag of each, byte by byte
pub headers : (header_of SetPin ≡ 0x84 ∷ 0x24 ∷ 0x00 ∷ 0x02 ∷ []) × (header_of SetMark ≡ 0x84 ∷ 0x1e ∷ 0x00 ∷ 0x00 ∷ []) × (header_of ClearMark ≡ 0x84 ∷ 0x18 ∷ 0x00 ∷ 0x00 ∷ [])
unfolding header_of
headers = (refl, refl, refl)

pub tags : (tag_for SetPin ≡ 0x87) × (tag_for SetMark ≡ 0x81) × (tag_for ClearMark ≡ 0x81)
unfolding tag_for
tags = (refl, refl, refl)
