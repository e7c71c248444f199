-- A table that is a book: the same cards with the same last counters, and as many; an adding, a forgetting and a kept counter leave it so. Assumes nothing.
use Prim.Native.Nat.{ℕ, zero, suc, ◌+◌, ◌-◌}
use native.Mathlib.Omega.{arith}
use native.Mathlib.Numerals.{add-one}
use mathlib.Core.Path.{◌≡◌, refl, sym, ap, ap₂, ◌∙◌}
use mathlib.Core.Bool.{Bool, true, false, not, ◌&&◌, ◌||◌, cond, true≢false}
use mathlib.Core.List.{List, [], ◌∷◌}
use Rattle.std.specs.Prelude.{Option, None, Some}
use lib.Dec.{eqb, leb, ltb}
use lib.ListN.{length, take, replicate, length-replicate}
use lib.Seq.{take_at}
use borrow.Author.Tests.{leb-true, leb-false, lt-ltb, le-ltb}
use Rattle.octets.specs.Same.{same}
use Rattle.table.specs.declared.CardId.{CardId}
use Rattle.table.specs.declared.Entry.{Entry}
use Rattle.table.specs.Table.{same_id, names, held, room, readings, held_count}
use Rattle.table.specs.Calls.{empty, placed, each, cleared_entry, kept_entry, reading}
use Rattle.table.specs.Acts.{last_of as lastIn}
use Rattle.table.specs.Seen.{is_some, first, over}
use Rattle.table.proofs.Touch.{id_equal, held_reads, last_reads, room_count, placed_own, placed_other, placed_count, placed_length, each_length, cleared_own, cleared_other, cleared_count, kept_own, kept_other, kept_count}
use Rattle.desk.specs.Desk.{id_of}
use Rattle.desk.specs.Check.{above, above_last}
use Rattle.desks.specs.Run.{Issuer, DeskCall, Add, Forget, Check}
use Rattle.desks.specs.Book.{Holding, holds, last_of, counter_of, is_above, due, writes}
use Rattle.desks.specs.Sentences.{is_add, is_forget, is_check, its_counter, once, read_as}
use Rattle.desks.proofs.BookLaws.{card_equal, card_refl, last_none, struck_length, kept_length}
use Rattle.desks.proofs.Laws.{add_passed, forget_passed, check_passed, writes_holds, writes_last}

-- two cards have two entries
id_cards : (p : List ℕ) (s : ℕ) (pan : List ℕ) (q : ℕ) → id_of p s ≡ id_of pan q → (p ≡ pan) × (s ≡ q)
unfolding id_of
id_cards p s pan q e = (
  sym (take_at p (replicate (19 - length p) 0) (length p) refl)
      ∙ ap (λ (c : CardId). take c.count c.digits) e
      ∙ take_at pan (replicate (19 - length pan) 0) (length pan) refl,
  ap (λ (c : CardId). c.sequence) e,
)

id_differs : (p : List ℕ) (s : ℕ) (pan : List ℕ) (q : ℕ) → (same p pan && eqb s q) ≡ false → same_id (id_of p s) (id_of pan q) ≡ false
id_differs p s pan q d = go (same_id (id_of p s) (id_of pan q)) refl
  where
    go : (x : Bool) → same_id (id_of p s) (id_of pan q) ≡ x → x ≡ false
    go true e =
        let c = id_cards p s pan q (id_equal (id_of p s) (id_of pan q) e) in
        absurd (true≢false (sym (card_refl p s) ∙ ap₂ (λ (x : List ℕ) (y : ℕ). same p x && eqb s y) c.0 c.1 ∙ d))
    go false e = refl

-- a table that is a book
pub record Kept (t : List Entry) (b : List Holding) : Type 0 where
  pub size : length t ≡ 64
  pub count : held_count t ≡ length b
  pub reads : (pan : List ℕ) (q : ℕ) → readings (id_of pan q) t ≡ read_as pan q b

empty_reads : (c : CardId) (n : ℕ) → readings c (replicate n empty) ≡ []
unfolding readings names
empty_reads c zero = refl
empty_reads c (suc n) = empty_reads c n

empty_count : (n : ℕ) → held_count (replicate n empty) ≡ 0
unfolding held_count
empty_count zero = refl
empty_count (suc n) = ap (λ (m : ℕ). 0 + m) (empty_count n)

pub at_first : Kept (replicate 64 empty) []
unfolding holds
at_first = record { size = length-replicate 64 empty; count = empty_count 64; reads = λ pan q. empty_reads (id_of pan q) 64 }

-- what the table says of a card is what the book says
first_reads : (pan : List ℕ) (q : ℕ) (b : List Holding) → first (read_as pan q b) ≡ last_of pan q b
first_reads pan q b = go (holds pan q b) refl
  where
    go : (x : Bool) → holds pan q b ≡ x → first (cond x (last_of pan q b ∷ []) []) ≡ last_of pan q b
    go true e = refl
    go false e = sym (last_none pan q b e)

some_reads : (pan : List ℕ) (q : ℕ) (b : List Holding) → is_some (read_as pan q b) ≡ holds pan q b
some_reads pan q b = go (holds pan q b)
  where
    go : (x : Bool) → is_some (cond x (last_of pan q b ∷ []) []) ≡ x
    go true = refl
    go false = refl

above_as : (x : Option ℕ) (n : ℕ) → above x n ≡ is_above n x
above_as None n = refl
above_as (Some l) n = refl

room_left : (n : ℕ) → ltb n 64 ≡ not (leb 64 n)
room_left n = go (leb 64 n) refl
  where
    go : (x : Bool) → leb 64 n ≡ x → ltb n 64 ≡ not x
    go true e = le-ltb n 64 (leb-true 64 n e)
    go false e = lt-ltb n 64 (leb-false 64 n e)

-- what is read of a card after an accepted call
reads_after : (k : Issuer) (b : List Holding) (c : DeskCall) (p : List ℕ) (s : ℕ) (a f x : Bool) → due k b c ≡ 0 → is_add p s c ≡ a → is_forget p s c ≡ f → is_check p s c ≡ x
    → read_as p s (writes c b) ≡ cond (cond (a || f) a (holds p s b)) (cond (a || f) None (cond x (Some (its_counter c)) (last_of p s b)) ∷ []) []
reads_after k b c p s a f x z ea ef ex =
    ap₂ (λ (y : Bool) (l : Option ℕ). cond y (l ∷ []) [])
    (writes_holds p s b c ∙ ap₂ (λ (y w : Bool). cond (y || w) y (holds p s b)) ea ef)
    (writes_last p s b k c z ∙ ap₂ (λ (y : Bool) (l : Option ℕ). cond y None l) (ap₂ (λ (y w : Bool). y || w) ea ef) (ap (λ (y : Bool). cond y (Some (its_counter c)) (last_of p s b)) ex))

module _ (t : List Entry) (b : List Holding) (h : Kept t b) where
  pub has_room : room t ≡ not (leb 64 (length b))
  has_room = room_count t ∙ ap₂ ltb h.count h.size ∙ room_left (length b)

  module _ (pan : List ℕ) (q : ℕ) where
    pub is_held : held (id_of pan q) t ≡ holds pan q b
    is_held = held_reads (id_of pan q) t ∙ ap is_some (h.reads pan q) ∙ some_reads pan q b

    pub is_above_lem : (n : ℕ) → above_last t (id_of pan q) n ≡ is_above n (last_of pan q b)
    unfolding above_last
    is_above_lem n =
        above_as (lastIn (reading (id_of pan q) t)) n
        ∙ ap (is_above n) (last_reads (id_of pan q) t ∙ ap first (h.reads pan q) ∙ first_reads pan q b)

    -- a change at this card alone
    by_card : (u : List Entry) (w : List Holding) → readings (id_of pan q) u ≡ read_as pan q w
        → ((m : CardId) → same_id m (id_of pan q) ≡ false → readings m u ≡ readings m t)
        → ((p : List ℕ) (s : ℕ) → (same p pan && eqb s q) ≡ false → read_as p s w ≡ read_as p s b)
        → (p : List ℕ) (s : ℕ) → readings (id_of p s) u ≡ read_as p s w
    by_card u w own table books p s = go (same p pan && eqb s q) refl
      where
        go : (x : Bool) → (same p pan && eqb s q) ≡ x → readings (id_of p s) u ≡ read_as p s w
        go true e =
            let c = card_equal p s pan q e in
            ap₂ (λ (x : List ℕ) (y : ℕ). readings (id_of x y) u) c.0 c.1 ∙ own ∙ sym (ap₂ (λ (x : List ℕ) (y : ℕ). read_as x y w) c.0 c.1)
        go false e = table (id_of p s) (id_differs p s pan q e) ∙ h.reads p s ∙ sym (books p s e)

    module _ (k : Issuer) where
      pub added : due k b (Add pan q) ≡ 0 → Kept (placed (id_of pan q) t) (writes (Add pan q) b)
      added z =
          let n = add_passed k b pan q z in
          let r : room t ≡ true = has_room ∙ ap not n.1 in
          let e : readings (id_of pan q) t ≡ [] = h.reads pan q ∙ ap (λ (x : Bool). cond x (last_of pan q b ∷ []) []) n.0 in
          record {
            size = placed_length (id_of pan q) t ∙ h.size;
            count = omega (arith, placed_count (id_of pan q) t r, h.count, add-one (length b));
            reads = by_card (placed (id_of pan q) t) (writes (Add pan q) b)
                (placed_own (id_of pan q) t r e ∙ sym (reads_after k b (Add pan q) pan q true false false z (card_refl pan q) refl refl))
                (λ m d. placed_other (id_of pan q) m d t)
                (λ p s d. reads_after k b (Add pan q) p s false false false z d refl refl);
          }

      pub struck : once b ≡ true → due k b (Forget pan q) ≡ 0 → Kept (each (cleared_entry (id_of pan q)) t) (writes (Forget pan q) b)
      struck o z =
          let e = forget_passed k b pan q z in
          let one : length (readings (id_of pan q) t) ≡ 1 = ap length (h.reads pan q) ∙ ap (λ (x : Bool). length (cond x (last_of pan q b ∷ []) [])) e in
          record {
            size = each_length (cleared_entry (id_of pan q)) t ∙ h.size;
            count = omega (arith, cleared_count (id_of pan q) t, one, h.count, struck_length pan q b o e);
            reads = by_card (each (cleared_entry (id_of pan q)) t) (writes (Forget pan q) b)
                (cleared_own (id_of pan q) t ∙ sym (reads_after k b (Forget pan q) pan q false true false z refl (card_refl pan q) refl))
                (λ m d. cleared_other (id_of pan q) m d t)
                (λ p s d. reads_after k b (Forget pan q) p s false false false z refl d refl);
          }

      module _ (m arqc csu : List ℕ) where
        pub raised : due k b (Check pan q m arqc csu) ≡ 0 → Kept (each (kept_entry (id_of pan q) (counter_of m)) t) (writes (Check pan q m arqc csu) b)
        raised z =
            let e = (check_passed k b pan q m arqc csu z).0 in
            let n = counter_of m in
            record {
              size = each_length (kept_entry (id_of pan q) n) t ∙ h.size;
              count = omega (arith, kept_count (id_of pan q) n t, h.count, kept_length pan q n b);
              reads = by_card (each (kept_entry (id_of pan q) n) t) (writes (Check pan q m arqc csu) b)
                  (kept_own (id_of pan q) n t
                  ∙ ap (over n) (h.reads pan q ∙ ap (λ (x : Bool). cond x (last_of pan q b ∷ []) []) e)
                  ∙ sym (reads_after k b (Check pan q m arqc csu) pan q false false true z refl refl (card_refl pan q) ∙ ap (λ (x : Bool). cond x (Some n ∷ []) []) e))
                  (λ c d. kept_other (id_of pan q) n c d t)
                  (λ p s d. reads_after k b (Check pan q m arqc csu) p s false false false z refl refl d);
            }
