-- A message ended by round keys that were kept is ended as by its core. Assumes nothing.
use mathlib.Core.Path.{◌≡◌, refl, sym, ap, ap₂, ◌∙◌}
use mathlib.Core.Bool.{Bool, true, false}
use mathlib.Core.List.{List, [], ◌++◌, append_assoc, append-nil}
use Prim.Native.Nat.{ℕ, zero, suc, ◌+◌, ◌-◌, ◌*◌, ◌/◌, ◌<◌, ◌≤◌}
use native.Mathlib.Omega.{arith}
use borrow.Author.Tests.{eq-eqb, ne_eqb, eqb-true, eqb-false, ltb-true, ltb-false, lt-ltb, le-ltb}
use lib.Dec.{eqb, ltb, lit<, lit≤}
use lib.ListN.{length, take, drop, set, replicate, length-append, length-drop, drop_of_length-le}
use lib.Seq.{paste, take-length, take_all, drop_at}
use Rattle.octets.proofs.Parts.{zeros}
use Rattle.blocks.specs.Blocks.{taken, absorbed, tail}
use Rattle.blocks.proofs.Laws.{absorbed_end, tail_end}
use Rattle.lps.specs.Vectors.{words}
use Rattle.rounds.specs.Sums.{vec}
use Rattle.rounds.specs.Rounds.{constants}
use Rattle.rounds.specs.Lent.{vector_at, laid_words}
use Rattle.rounds.specs.Keys.{keys_of, g_by, g_with}
use Rattle.rounds.proofs.SumLaws.{length-vec, length_sum}
use Rattle.rounds.proofs.LentLaws.{vector_in, laid_zeros}
use Rattle.rounds.proofs.KeyLaws.{length_keys, g_by_lem, with_all}
use Rattle.hash.specs.declared.Core.{Core}
use Rattle.hash.specs.Hash.{start, block_step, after_block, advanced, padded, closed, finished}
use Rattle.blocks.specs.Parts.{filled, poured}
use Rattle.hash.specs.States.{state_of, held, begun, poured_into, ended}
use Rattle.hash.specs.Ahead.{ahead_of, core_in, advanced_by, ended_ahead, closed_over, last_block, ended_block}
use Rattle.hash.proofs.Laws.{held_state_of, core_state_of, length-g, length_closed_over, closed_over_lem}
use Rattle.hash.proofs.BlockLaws.{put_empty, padded_filled}

-- the last block as the code makes it
pub padded_put : (m : List ℕ) → length m < 64 → set (paste (zeros 64) 0 m (length m)) (length m) 1 ≡ padded m
padded_put m h =
    ap (λ (b : List ℕ). set b (length m) 1) (put_empty m (length m) (omega arith) (omega arith) ∙ ap (filled 64) (take-length m))
    ∙ padded_filled m (length m) refl h

module _ (a m : List ℕ) (e : length a ≡ 128) where
  ended_short : length m < 64 → closed (advanced_by a (8 * length m) (words (padded m))) ≡ ended_ahead a m
  unfolding ended_ahead
  ended_short h = simp (eq-eqb _ _ e, lt-ltb _ _ h)

  ended_long : 64 ≤ length m → ended (poured_into (state_of (core_in a) [] 0) m) ≡ ended_ahead a m
  unfolding ended_ahead
  ended_long h = simp (eq-eqb _ _ e, le-ltb _ _ h)

module _ (m : List ℕ) where
  pub last_long : 64 ≤ length m → replicate 8 0 ≡ last_block m
  unfolding last_block
  last_long h = simp (le-ltb _ _ h)

  pub last_short : length m < 64 → words (padded m) ≡ last_block m
  unfolding last_block
  last_short h = simp (lt-ltb _ _ h)

module _ (cs : List (List ℕ)) (a : List ℕ) (n : ℕ) (m : List ℕ) where
  pub block_not : (length a ≡ 128 → ⊥) → replicate 32 0 ≡ ended_block cs a n m
  unfolding ended_block
  block_not e = simp (ne_eqb _ _ e)

  pub block_ended : length a ≡ 128 → closed_over cs (advanced_by a n m) ≡ ended_block cs a n m
  unfolding ended_block
  block_ended e = simp (eq-eqb _ _ e)

  pub length-block : length (ended_block cs a n m) ≡ 32
  length-block = go (eqb (length a) 128) refl
    where
      go : (t : Bool) → eqb (length a) 128 ≡ t → length (ended_block cs a n m) ≡ 32
      go true e = ap length (sym (block_ended (eqb-true _ _ e))) ∙ length_closed_over cs (advanced_by a n m)
      go false e = ap length (sym (block_not (eqb-false _ _ e)))

-- the last block ends what the message ends
pub ended_block_lem : (a m : List ℕ) → length m < 64 → ended_block constants a (8 * length m) (last_block m) ≡ ended_ahead a m
unfolding ended_block ended_ahead last_block
ended_block_lem a m h = simp (lt-ltb _ _ h, closed_over_lem)

-- the words of a core whose vectors have eight
abbrev pub Eights : Core → Type 0
Eights c = (length c.h ≡ 8) × (length c.n ≡ 8) × (length c.sigma ≡ 8)

module _ (c : Core) (e : Eights c) where
  pub length-ahead : length (ahead_of c) ≡ 128
  unfolding ahead_of
  length-ahead =
      length-append c.h (c.n ++ (c.sigma ++ keys_of c.n c.h))
      ∙ ap₂ (λ (i j : ℕ). i + j) e.0
      (length-append c.n (c.sigma ++ keys_of c.n c.h)
      ∙ ap₂ (λ (i j : ℕ). i + j) e.1
      (length-append c.sigma (keys_of c.n c.h) ∙ ap₂ (λ (i j : ℕ). i + j) e.2 (length_keys c.n c.h)))

  front : length (c.h ++ c.n) ≡ 16
  front = length-append c.h c.n ∙ ap₂ (λ (i j : ℕ). i + j) e.0 e.1

  core_in_lem : core_in (ahead_of c) ≡ c
  unfolding core_in ahead_of
  core_in_lem =
      let ks : List ℕ = keys_of c.n c.h in
      let h = vector_in [] c.h (c.n ++ (c.sigma ++ ks)) 0 refl e.0 in
      let n = vector_in c.h c.n (c.sigma ++ ks) 8 e.0 e.1 in
      let s =
      ap (λ (x : List ℕ). vector_at x 16) (sym (append_assoc c.h c.n (c.sigma ++ ks)))
      ∙ vector_in (c.h ++ c.n) c.sigma ks 16 front e.2 in
      λ k. record { h = h k; n = n k; sigma = s k }

  keys_in : drop 24 (ahead_of c) ≡ keys_of c.n c.h
  unfolding ahead_of
  keys_in =
      let ks : List ℕ = keys_of c.n c.h in
      let m : length ((c.h ++ c.n) ++ c.sigma) ≡ 24 = length-append (c.h ++ c.n) c.sigma ∙ ap₂ (λ (i j : ℕ). i + j) front e.2 in
      ap (drop 24) (sym (append_assoc (c.h ++ c.n) c.sigma ks ∙ append_assoc c.h c.n (c.sigma ++ ks)))
      ∙ drop_at ((c.h ++ c.n) ++ c.sigma) ks 24 m

  advanced_by_lem : (n : ℕ) (m : List ℕ) → advanced_by (ahead_of c) n m ≡ advanced c n m
  unfolding advanced_by advanced
  advanced_by_lem n m =
      let h = ap₂ (λ (ks : List ℕ) (d : Core). g_by ks d.h m) keys_in core_in_lem ∙ g_by_lem c.n c.h m in
      ap₂ (λ (d : Core) (x : List ℕ). after_block d x n m) core_in_lem h

  -- as the code writes them
  pub ahead_laid : (ks w x y z : List ℕ) → ks ≡ keys_of c.n c.h → w ≡ laid_words (zeros 128) 0 c.h → x ≡ laid_words w 8 c.n → y ≡ laid_words x 16 c.sigma
      → z ≡ laid_words y 24 ks → z ≡ ahead_of c
  unfolding ahead_of
  ahead_laid ks w x y z k ew ex ey ez =
      let r : List ℕ = keys_of c.n c.h in
      let f : length (c.h ++ c.n ++ c.sigma) ≡ 24 = length-append (c.h ++ c.n) c.sigma ∙ ap₂ (λ (i j : ℕ). i + j) front e.2 in
      let one : w ≡ c.h ++ zeros 120 = ew ∙ laid_zeros [] c.h 0 8 128 refl e.0 (lit≤ tt) in
      let two : x ≡ c.h ++ c.n ++ zeros 112 = ex ∙ ap (λ (b : List ℕ). laid_words b 8 c.n) one ∙ laid_zeros c.h c.n 8 8 120 e.0 e.1 (lit≤ tt) in
      let three : y ≡ c.h ++ c.n ++ c.sigma ++ zeros 104 =
      ey ∙ ap (λ (b : List ℕ). laid_words b 16 c.sigma) two ∙ laid_zeros (c.h ++ c.n) c.sigma 16 8 112 front e.2 (lit≤ tt) in
      ez
      ∙ ap₂ (λ (b v : List ℕ). laid_words b 24 v) three k
      ∙ laid_zeros (c.h ++ c.n ++ c.sigma) r 24 104 104 f (length_keys c.n c.h) (lit≤ tt)
      ∙ append-nil (c.h ++ c.n ++ c.sigma ++ r)
      ∙ append_assoc (c.h ++ c.n) c.sigma r
      ∙ append_assoc c.h c.n (c.sigma ++ r)

-- the round keys as the code lends them
pub keys_lent : (a h m : List ℕ) → length a ≡ 128 → g_with (take (length a - 24) (drop 24 a)) h m ≡ g_by (drop 24 a) h m
keys_lent a h m e =
    let n : length (drop 24 a) ≡ 104 = length-drop 24 a ∙ omega arith in
    ap (λ (ks : List ℕ). g_with ks h m) (take_all (length a - 24) (drop 24 a) (omega arith)) ∙ sym (with_all (drop 24 a) h m n)

-- less than a block after a core
finished_core : (c : Core) (m : List ℕ) → length m < 64 → ended (poured_into (state_of c [] 0) m) ≡ finished c m
unfolding ended poured_into poured
finished_core c m h =
    let n : ℕ = (state_of c [] 0).total in
    let b : List ℕ = held (state_of c [] 0) ++ m in
    let e : b ≡ m = ap (λ (t : List ℕ). t ++ m) (held_state_of c [] 0 (lit< tt)) in
    ap₂ (λ (d : Core) (t : List ℕ). finished (state_of (absorbed 64 block_step d t) (tail 64 t) n).core (held (state_of (absorbed 64 block_step d t) (tail 64 t) n)))
    (core_state_of c [] 0) e
    ∙ ap₂ finished (core_state_of (absorbed 64 block_step c m) (tail 64 m) n ∙ absorbed_end 64 (lit< tt) block_step c m h)
    (ap (λ (t : List ℕ). held (state_of (absorbed 64 block_step c m) t n)) (tail_end 64 (lit< tt) m h) ∙ held_state_of (absorbed 64 block_step c m) m n h)

module _ (c : Core) (e : Eights c) (m : List ℕ) where
  short : length m < 64 → ended_ahead (ahead_of c) m ≡ ended (poured_into (state_of c [] 0) m)
  unfolding finished
  short h =
      sym (ended_short (ahead_of c) m (length-ahead c e) h)
      ∙ ap closed (advanced_by_lem c e (8 * length m) (words (padded m)))
      ∙ sym (finished_core c m h)

  pub ended_ahead_lem : ended_ahead (ahead_of c) m ≡ ended (poured_into (state_of c [] 0) m)
  ended_ahead_lem = go (ltb (length m) 64) refl
    where
      go : (b : Bool) → ltb (length m) 64 ≡ b → ended_ahead (ahead_of c) m ≡ ended (poured_into (state_of c [] 0) m)
      go true t = short (ltb-true _ _ t)
      go false t =
          sym (ended_long (ahead_of c) m (length-ahead c e) (ltb-false _ _ t)) ∙ ap (λ (d : Core). ended (poured_into (state_of d [] 0) m)) (core_in_lem c e)

-- the vectors of a hash under way have eight words
eights_step : (c : Core) (b : List ℕ) → Eights (block_step c b)
unfolding block_step advanced after_block
eights_step c b = (length-g c.n c.h (words b), length_sum c.n (vec 512), length_sum c.sigma (words b))

eights_taken : (n : ℕ) (c : Core) (m : List ℕ) → Eights c → Eights (taken 64 block_step n c m)
unfolding taken
eights_taken zero c m e = e
eights_taken (suc n) c m e = eights_taken n (block_step c (take 64 m)) (drop 64 m) (eights_step c (take 64 m))

eights_start : Eights start
unfolding start words
eights_start = (refl, length-vec 0, length-vec 0)

pub eights_poured : (m : List ℕ) → Eights (poured_into begun m).core
unfolding poured_into poured begun absorbed state_of
eights_poured m = eights_taken (length (held begun ++ m) / 64) start (held begun ++ m) eights_start

-- a whole block leaves nothing held
pub poured_block : (b : List ℕ) → length b ≡ 64 → state_of (poured_into begun b).core [] 0 ≡ poured_into begun b
unfolding poured_into poured begun tail state_of
poured_block b e =
    let t : List ℕ = held (state_of start [] 0) ++ b in
    let c : Core = absorbed 64 block_step (state_of start [] 0).core t in
    let n : length t ≡ 64 = ap length (ap (λ (x : List ℕ). x ++ b) (held_state_of start [] 0 (lit< tt))) ∙ e in
    let z : length t ≤ length t / 64 * 64 = omega arith in
    ap (λ (d : Core). state_of d [] 0) (core_state_of c (tail 64 t) 0) ∙ ap (λ (x : List ℕ). state_of c x 0) (sym (drop_of_length-le t z))
