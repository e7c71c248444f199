-- g by its round keys is g, and the keys are what the rounds over the constants give. Assumes nothing.
use Rattle.std.proofs.Common.{◌≡◌, ℕ, suc, ◌+◌, ◌-◌, ◌*◌, ◌<◌, ◌≤◌, Bool, true, false, cond, List, [], ◌∷◌, ◌++◌, length, get_or, take, drop, replicate, sym, refl, ap, ◌∙◌, ap₂, append_assoc, append-nil, add-one, arith, length-append, length-drop, drop_of_length-le, length-take-le, get_or-drop, take_all, drop-cons, drop-drop, drop_at, eq-eqb, ne_eqb}
use mathlib.Core.Bool.{and-eq-true_iff}
use lib.Bits.{bit_xor, xor_comm}
use lib.ListN.{get_or-append}
use lib.Seq.{get_or-append_seam, paste, take-paste, drop-paste, length-paste, sets, sets-eq}
use Rattle.octets.specs.Same.{same}
use Rattle.octets.proofs.SameLaws.{same_true}
use Rattle.lps.specs.Vectors.{X, LPS}
use Rattle.lps.proofs.Each.{each_equal}
use Rattle.lps.proofs.Words.{length-LPS}
use Rattle.rounds.specs.Constants.{C}
use Rattle.rounds.specs.Rounds.{constants, E, g_over, g}
use Rattle.rounds.specs.Keys.{schedule, keys_of, through_keys, g_by, g_with, is_first, g_first, g_block}

count : length constants ≡ 12
unfolding constants C
count = refl

X_comm : (a b : List ℕ) → X a b ≡ X b a
unfolding X
X_comm a b = each_equal (λ i h. xor_comm (get_or a i 0) (get_or b i 0))

-- X takes the first eight words
X_front : (k s m : List ℕ) → length k ≡ 8 → X (k ++ s) m ≡ X k m
unfolding X
X_front k s m e = each_equal (λ i h. ap (λ (x : ℕ). bit_xor x (get_or m i 0)) (get_or-append k s 0 i (omega arith)))

-- E by the schedule of its key
rounds-through : (cs : List (List ℕ)) (k m : List ℕ) → length k ≡ 8
    → E cs k m ≡ X (drop (8 * length cs) (schedule cs k)) (through_keys (length cs) (schedule cs k) m)
unfolding E through_keys schedule
rounds-through [] k m e = refl
rounds-through (c ∷ cs) k m e =
    let next : List ℕ = LPS (X k c) in
    let s : List ℕ = schedule cs next in
    let d : 8 + 8 * length cs ≡ 8 * suc (length cs) = omega arith in
    rounds-through cs next (LPS (X k m)) (length-LPS (X k c))
    ∙ sym
    (ap₂ (λ (x y : List ℕ). X x (through_keys (length cs) y (LPS (X (k ++ s) m))))
    (ap (λ (n : ℕ). drop n (k ++ s)) (sym d) ∙ sym (drop-drop (8 * length cs) 8 (k ++ s)) ∙ ap (drop (8 * length cs)) (drop_at k s 8 e))
    (drop_at k s 8 e)
    ∙ ap (λ (x : List ℕ). X (drop (8 * length cs) s) (through_keys (length cs) s (LPS x))) (X_front k s m e))

pub g_by_lem : (n h m : List ℕ) → g_by (keys_of n h) h m ≡ g n h m
unfolding g_by keys_of g g_over
g_by_lem n h m =
    ap (λ (x : List ℕ). X (X x h) m)
    (ap (λ (i : ℕ). X (drop (8 * i) (schedule constants (LPS (X h n)))) (through_keys i (schedule constants (LPS (X h n))) m)) (sym count)
    ∙ sym (rounds-through constants (LPS (X h n)) m (length-LPS (X h n))))

-- the first block
pub g_first_lem : (n h m : List ℕ) → is_first n h ≡ true → g_first h m ≡ g n h m
unfolding g_first is_first
g_first_lem n h m e =
    let b = (and-eq-true_iff (same n (replicate 8 0)) (same h (replicate 8 0x0101010101010101))).0 e in
    ap (λ (ks : List ℕ). g_by ks h m) (sym (ap₂ keys_of (same_true _ _ b.0) (same_true _ _ b.1))) ∙ g_by_lem n h m

module _ (cs : List (List ℕ)) (n h m : List ℕ) where
  pub block_first : is_first n h ≡ true → g_first h m ≡ g_block cs n h m
  unfolding g_block
  block_first e = simp e (g_first_lem n h m e)

  pub block_other : is_first n h ≡ false → g_over cs n h m ≡ g_block cs n h m
  unfolding g_block
  block_other e = simp e

-- 13 keys of eight words
length-schedule : (cs : List (List ℕ)) (k : List ℕ) → length k ≡ 8 → length (schedule cs k) ≡ 8 + 8 * length cs
unfolding schedule
length-schedule [] k e = e
length-schedule (c ∷ cs) k e =
    let r : length (schedule cs (LPS (X k c))) ≡ 8 + 8 * length cs = length-schedule cs (LPS (X k c)) (length-LPS (X k c)) in
    length-append k (schedule cs (LPS (X k c))) ∙ omega arith

pub length_keys : (n h : List ℕ) → length (keys_of n h) ≡ 104
unfolding keys_of
length_keys n h = length-schedule constants (LPS (X h n)) (length-LPS (X h n)) ∙ ap (λ (k : ℕ). 8 + 8 * k) count

-- by any words
module _ (ks h m : List ℕ) where
  pub with_all : length ks ≡ 104 → g_by ks h m ≡ g_with ks h m
  unfolding g_with
  with_all e = simp (eq-eqb _ _ e)

  pub with_not : (length ks ≡ 104 → ⊥) → replicate 8 0 ≡ g_with ks h m
  unfolding g_with
  with_not e = simp (ne_eqb _ _ e)

-- a vector put in, and what stands before and after it
module _ (b v : List ℕ) (p : ℕ) (n : length b ≡ 104) (e : length v ≡ 8) (h : p + 8 ≤ 104) where
  pub put_length : length (paste b p v 8) ≡ 104
  put_length = length-paste b p v 8 (omega arith) (omega arith) ∙ n

  pub put_front : take (p + 8) (paste b p v 8) ≡ take p b ++ v
  put_front = take-paste b p v 8 (omega arith) (omega arith) ∙ ap (λ (x : List ℕ). take p b ++ x) (take_all 8 v (omega arith))

  put_back : drop (p + 8) (paste b p v 8) ≡ drop (p + 8) b
  put_back = drop-paste b p v 8 (omega arith) (omega arith)

-- i rounds by the keys ks are done
module _ (ks m : List ℕ) where
  pub through_turn : (i : ℕ) (k s : List ℕ) → i < 12 → X k s ≡ X (drop (8 * i) ks) s → through_keys (12 - i) (drop (8 * i) ks) s ≡ through_keys 12 ks m
      → through_keys (12 - (i + 1)) (drop (8 * (i + 1)) ks) (LPS (X s k)) ≡ through_keys 12 ks m
  unfolding through_keys
  through_turn i k s h e d =
      let r : 12 - i ≡ suc (12 - (i + 1)) = omega arith in
      let f : 8 * i + 8 ≡ 8 * (i + 1) = omega arith in
      let q : drop (8 * (i + 1)) ks ≡ drop 8 (drop (8 * i) ks) = ap (λ (n : ℕ). drop n ks) (sym f) ∙ sym (drop-drop 8 (8 * i) ks) in
      ap₂ (through_keys (12 - (i + 1))) q (ap LPS (X_comm s k ∙ e))
      ∙ ap (λ (n : ℕ). through_keys n (drop (8 * i) ks) s) (sym r)
      ∙ d

  pub through_end : (i : ℕ) (s : List ℕ) → 12 ≤ i → i ≤ 12 → through_keys (12 - i) (drop (8 * i) ks) s ≡ through_keys 12 ks m → s ≡ through_keys 12 ks m
  unfolding through_keys
  through_end i s h l d = let e : 0 ≡ 12 - i = omega arith in ap (λ (n : ℕ). through_keys n (drop (8 * i) ks) s) e ∙ d

-- i rounds are done, of the state and of the keys
module _ (cs : List (List ℕ)) where
  constants_turn : (i : ℕ) → i < length cs → drop i cs ≡ get_or cs i [] ∷ drop (i + 1) cs
  constants_turn i h = drop-cons cs i [] h ∙ ap (λ (k : ℕ). get_or cs i [] ∷ drop k cs) (sym (add-one i))

  constants_end : (i : ℕ) → length cs ≤ i → drop i cs ≡ []
  constants_end i h = drop_of_length-le cs {i = i} h

  pub rounds_turn : (i : ℕ) (k s : List ℕ) → i < length cs → E (drop (i + 1) cs) (LPS (X k (get_or cs i []))) (LPS (X s k)) ≡ E (drop i cs) k s
  unfolding E
  rounds_turn i k s h =
      ap (λ (v : List ℕ). E (drop (i + 1) cs) (LPS (X k (get_or cs i []))) (LPS v)) (X_comm s k)
      ∙ ap (λ (l : List (List ℕ)). E l k s) (sym (constants_turn i h))

  pub rounds_end : (i : ℕ) (k s : List ℕ) → length cs ≤ i → X k s ≡ E (drop i cs) k s
  unfolding E
  rounds_end i k s h = ap (λ (l : List (List ℕ)). E l k s) (sym (constants_end i h))

  -- the constants before the last, and the last
  module _ (others : List (List ℕ)) (last : List ℕ) (e : cs ≡ others ++ last ∷ []) where
    pub others_at : (i : ℕ) → i < length others → get_or others i [] ≡ get_or cs i []
    others_at i h = sym (ap (λ (l : List (List ℕ)). get_or l i []) e ∙ get_or-append others (last ∷ []) [] i h)

    pub last_at : last ≡ get_or cs (length others) []
    last_at = sym (ap (λ (l : List (List ℕ)). get_or l (length others) []) e ∙ get_or-append_seam others last [] [])

  -- the last round
  pub rounds-last : (i : ℕ) (k s : List ℕ) → length cs ≡ i + 1 → X (LPS (X k (get_or cs i []))) (LPS (X s k)) ≡ E (drop i cs) k s
  rounds-last i k s e =
      rounds_end (i + 1) (LPS (X k (get_or cs i []))) (LPS (X s k)) (omega arith) ∙ rounds_turn i k s (omega arith)

  pub schedule_turn : (i : ℕ) (k : List ℕ) → i < length cs → schedule (drop i cs) k ≡ k ++ schedule (drop (i + 1) cs) (LPS (X k (get_or cs i [])))
  unfolding schedule
  schedule_turn i k h = ap (λ (l : List (List ℕ)). schedule l k) (constants_turn i h)

  pub schedule_end : (i : ℕ) (k : List ℕ) → length cs ≤ i → schedule (drop i cs) k ≡ k
  unfolding schedule
  schedule_end i k h = ap (λ (l : List (List ℕ)). schedule l k) (constants_end i h)

-- vectors put in one after the other: those put, and those still to come, are all
module _ (all : List ℕ) where
  abbrev pub Filled : ℕ → List ℕ → List ℕ → Type 0
  Filled p b rest = (length b ≡ 104) × (take p b ++ rest ≡ all)

  pub filled_turn : (p : ℕ) (b v rest : List ℕ) → p + 8 ≤ 104 → length v ≡ 8 → Filled p b (v ++ rest) → Filled (p + 8) (paste b p v 8) rest
  filled_turn p b v rest h e f = (
    put_length b v p f.0 e h,
    ap (λ (x : List ℕ). x ++ rest) (put_front b v p f.0 e h) ∙ append_assoc (take p b) v rest ∙ f.1,
  )

  pub filled_end : (b : List ℕ) → Filled 104 b [] → b ≡ all
  filled_end b f = sym (take_all 104 b (omega (arith, f.0))) ∙ sym (append-nil (take 104 b)) ∙ f.1

-- the upper four words
X_upper : (a b v w : List ℕ) → drop 4 a ≡ drop 4 v → drop 4 b ≡ drop 4 w → drop 4 (X a b) ≡ drop 4 (X v w)
unfolding X
X_upper a b v w e f = λ k. at 0 k ∷ at 1 k ∷ at 2 k ∷ at 3 k ∷ []
  where
    same : (x y : List ℕ) → drop 4 x ≡ drop 4 y → (i : ℕ) → get_or x (4 + i) 0 ≡ get_or y (4 + i) 0
    same x y e i = sym (get_or-drop 4 x i 0) ∙ ap (λ (z : List ℕ). get_or z i 0) e ∙ get_or-drop 4 y i 0

    at : (i : ℕ) → bit_xor (get_or a (4 + i) 0) (get_or b (4 + i) 0) ≡ bit_xor (get_or v (4 + i) 0) (get_or w (4 + i) 0)
    at i = ap₂ bit_xor (same a v e i) (same b w f i)

-- a vector whose upper four words are put in
put_upper : (s v : List ℕ) → length s ≡ 8 → length v ≡ 8 → drop 4 (sets s 4 (drop 4 v)) ≡ drop 4 v
put_upper s v n m =
    let l : length (drop 4 v) ≡ 4 = length-drop 4 v ∙ omega arith in
    let t : length (take 4 s) ≡ 4 = length-take-le 4 s (omega arith) in
    let z : drop (4 + length (drop 4 v)) s ≡ [] = drop_of_length-le s {i = 4 + length (drop 4 v)} (omega arith) in
    ap (drop 4) (sets-eq (drop 4 v) s 4 (omega arith) ∙ ap (λ (x : List ℕ). take 4 s ++ drop 4 v ++ x) z ∙ append-nil (take 4 s ++ drop 4 v))
    ∙ drop_at (take 4 s) (drop 4 v) 4 t

-- the sum of upper halves, made of a last round in part
pub upper_made : (k s v w h m : List ℕ) → length k ≡ 8 → length s ≡ 8 → length v ≡ 8 → length w ≡ 8
    → drop 4 (X (X (X (sets k 4 (drop 4 v)) (sets s 4 (drop 4 w))) h) m) ≡ drop 4 (X (X (X v w) h) m)
upper_made k s v w h m a b c d =
    let x : List ℕ = sets k 4 (drop 4 v) in
    let y : List ℕ = sets s 4 (drop 4 w) in
    X_upper (X (X x y) h) m (X (X v w) h) m (X_upper (X x y) h (X v w) h (X_upper x y v w (put_upper k v a c) (put_upper s w b d)) refl) refl

-- with the constants of the RFC
pub g_block_lem : (n h m : List ℕ) → g_block constants n h m ≡ g n h m
unfolding g_block g
g_block_lem n h m = go (is_first n h)
  where
    go : (t : Bool) → cond t (g_over constants n h m) (g_over constants n h m) ≡ g_over constants n h m
    go true = refl
    go false = refl
