-- When each number is given, and when a checking is accepted. Assumes nothing.
use Prim.Native.Nat.{ℕ, ◌+◌, ◌<◌}
use mathlib.Core.Path.{◌≡◌, refl, sym, ap, ap₂, ◌∙◌}
use mathlib.Core.Bool.{Bool, true, false, ◌&&◌}
use mathlib.Core.List.{List}
use Rattle.std.specs.Prelude.{Option, None, Some}
use lib.Dec.{eqb}
use lib.ListN.{length}
use borrow.Author.Tests.{eqb-false, ltb-true, lt-ltb, le-ltb, lt-leb}
use Rattle.octets.specs.Same.{same}
use Rattle.octets.proofs.SameLaws.{same_refl, same_true}
use Rattle.keys.specs.CardNumber.{card_fits}
use Rattle.desks.specs.Book.{holds, last_of, counter_of, arqc_for, is_above, script_for, first_of, due, book}
use Rattle.desks.specs.Sentences.{last_was_add, last_checked, Right, CheckExactly, EachNumbered}
use Rattle.desks.proofs.Laws.{check_tests, sentences}

all_true : (l f h s a : Bool) → first_of (check_tests l f h s a) ≡ 0 → (l ≡ true) × (f ≡ true) × (h ≡ true) × (s ≡ true) × (a ≡ true)
all_true true true true true true z = (refl, refl, refl, refl, refl)
all_true true true true true false z = absurd (eqb-false 23 0 refl z)
all_true true true true false a z = absurd (eqb-false 22 0 refl z)
all_true true true false s a z = absurd (eqb-false 19 0 refl z)
all_true true false h s a z = absurd (eqb-false 2 0 refl z)
all_true false f h s a z = absurd (eqb-false 1 0 refl z)

is_above_lem : (n : ℕ) (x : Option ℕ) → ((l : ℕ) → x ≡ Some l → l < n) → is_above n x ≡ true
is_above_lem n None h = refl
is_above_lem n (Some l) h = lt-ltb l n (h l refl)

pub check_exactly : CheckExactly
unfolding due
check_exactly k cs pan q m arqc csu = (there, back)
  where
    long : Bool
    long = eqb (length m) 65 && (eqb (length arqc) 8 && eqb (length csu) 4)

    last : last_of pan q (book k cs) ≡ last_checked k pan q cs
    last = sentences.last_exactly k pan q cs

    there : first_of (check_tests long (card_fits pan q) (holds pan q (book k cs)) (same (arqc_for k pan q m) arqc) (is_above (counter_of m) (last_of pan q (book k cs)))) ≡ 0 → Right k cs pan q m arqc csu
    there z =
        let p = all_true long (card_fits pan q) (holds pan q (book k cs)) (same (arqc_for k pan q m) arqc) (is_above (counter_of m) (last_of pan q (book k cs))) z in
        record {
          long = p.0;
          fits = p.1;
          held = sym (sentences.held_exactly k pan q cs) ∙ p.2;
          its_arqc = same_true _ _ p.3;
          above = λ l e. ltb-true l (counter_of m) (ap (is_above (counter_of m)) (sym (last ∙ e)) ∙ p.4);
        }

    back : Right k cs pan q m arqc csu → first_of (check_tests long (card_fits pan q) (holds pan q (book k cs)) (same (arqc_for k pan q m) arqc) (is_above (counter_of m) (last_of pan q (book k cs)))) ≡ 0
    back r =
        ap₂ (λ (x y : Bool). first_of (check_tests x y (holds pan q (book k cs)) (same (arqc_for k pan q m) arqc) (is_above (counter_of m) (last_of pan q (book k cs))))) r.long r.fits
        ∙ ap₂ (λ (x y : Bool). first_of (check_tests true true x y (is_above (counter_of m) (last_of pan q (book k cs))))) (sentences.held_exactly k pan q cs ∙ r.held)
        (ap (same (arqc_for k pan q m)) (sym r.its_arqc) ∙ same_refl (arqc_for k pan q m))
        ∙ ap (λ (x : Bool). first_of (check_tests true true true true x)) (is_above_lem (counter_of m) (last_of pan q (book k cs)) (λ l e. r.above l (sym last ∙ e)))

same_not : (s t : List ℕ) → (s ≡ t → ⊥) → same s t ≡ false
same_not s t h = go (same s t) refl
  where
    go : (x : Bool) → same s t ≡ x → x ≡ false
    go true e = absurd (h (same_true s t e))
    go false e = refl

pub each_numbered : EachNumbered
unfolding due
each_numbered k cs pan q =
    record {
      add_2 = λ f. rw f;
      add_20 = λ f h. rw (f, in_book true h);
      forget_2 = λ f. rw f;
      forget_19 = λ f h. rw (f, in_book false h);
      check_1 = λ m arqc csu l. rw l;
      check_2 = λ m arqc csu l f. rw (l, f);
      check_19 = λ m arqc csu l f h. rw (l, f, in_book false h);
      check_22 = λ m arqc csu l f h n. rw (l, f, in_book true h, same_not (arqc_for k pan q m) arqc n);
      check_23 = λ m arqc csu x l f h e z n. rw (l, f, in_book true h, its e, sentences.last_exactly k pan q cs ∙ z, le-ltb x (counter_of m) n);
      wrap_1 = λ i g pin b place w. rw w;
      wrap_2 = λ i g pin b place w f. rw (w, f);
      wrap_19 = λ i g pin b place w f h. rw (w, f, in_book false h);
      wrap_12 = λ g pin b place w f h p. rw (w, f, in_book true h, p);
      wrap_3 = λ i g pin b place w f h p n. rw (w, f, in_book true h, p, lt-leb (place + length (script_for k pan q i g pin)) (length b) n);
    }
  where
    in_book : (x : Bool) → last_was_add k pan q cs ≡ x → holds pan q (book k cs) ≡ x
    in_book x h = sentences.held_exactly k pan q cs ∙ h

    its : {s t : List ℕ} → s ≡ t → same s t ≡ true
    its {s} e = ap (same s) (sym e) ∙ same_refl s
