-- The two ways through pour: the part fills no block, or it fills one. Assumes nothing.
use mathlib.Core.Path.{◌≡◌, sym, ap, ap₂, ◌∙◌}
use mathlib.Core.List.{List, ◌++◌}
use Prim.Native.Nat.{ℕ, ◌+◌, ◌-◌, ◌*◌, ◌/◌, ◌%◌, ◌<◌, ◌≤◌}
use native.Mathlib.Omega.{arith}
use lib.Dec.{lit<}
use lib.ListN.{length, take, drop, length-append, length-drop}
use lib.Seq.{paste, length-take-le, take-length, take_all, take-append-add, drop-append-add, drop-drop}
use Rattle.blocks.specs.Blocks.{absorbed, tail}
use Rattle.blocks.proofs.Laws.{absorbed_step, absorbed_end, tail_step, tail_end}
use Rattle.lps.specs.Vectors.{words}
use Rattle.hash.specs.declared.Core.{Core}
use Rattle.hash.specs.declared.State.{State}
use Rattle.hash.specs.Hash.{advanced, block_step}
use Rattle.blocks.specs.Parts.{filled, poured}
use Rattle.hash.specs.States.{state_of, held, poured_into}
use Rattle.octets.proofs.Parts.{zeros}
use Rattle.hash.proofs.BlockLaws.{put_filled, put_empty, filled-full}

-- m is poured into s; kept is the buffer with zeros after what it holds
module _ (s : State) (m kept : List ℕ) (hb : length s.buffer ≡ 64) (ek : kept ≡ paste (zeros 64) 0 s.buffer (s.fill % 64)) where
  length-held : length (held s) ≡ s.fill % 64
  unfolding held
  length-held = length-take-le (s.fill % 64) s.buffer (omega arith)

  kept_filled : kept ≡ filled 64 (held s)
  unfolding held
  kept_filled = ek ∙ put_empty s.buffer (s.fill % 64) (omega arith) (omega arith)

  put_kept : (n : ℕ) → s.fill % 64 + n ≤ 64 → n ≤ length m → paste kept (s.fill % 64) m n ≡ filled 64 (held s ++ take n m)
  put_kept n h l =
      ap (λ (b : List ℕ). paste b (s.fill % 64) m n) kept_filled ∙ put_filled (held s) m (s.fill % 64) n length-held h l

  pub poured_short : (out : List ℕ) → s.fill % 64 + length m < 64 → out ≡ paste kept (s.fill % 64) m (length m)
      → record { core = s.core; buffer = out; fill = s.fill % 64 + length m; total = s.total } ≡ poured_into s m
  unfolding poured_into poured state_of
  poured_short out h e =
      let t : List ℕ = held s in
      let n : length t ≡ s.fill % 64 = length-held in
      let l : length (t ++ m) < 64 = simp length-append (omega arith) in
      let b : out ≡ filled 64 (t ++ m) = e ∙ put_kept (length m) (omega arith) (omega arith) ∙ ap (λ (x : List ℕ). filled 64 (t ++ x)) (take-length m) in
      let f : s.fill % 64 + length m ≡ length (t ++ m) = ap (λ (k : ℕ). k + length m) (sym n) ∙ sym (length-append t m) in
      (λ k. record { core = s.core; buffer = b k; fill = f k; total = s.total })
      ∙ ap₂ (λ (c : Core) (x : List ℕ). state_of c x s.total) (sym (absorbed_end 64 (lit< tt) block_step s.core (t ++ m) l)) (sym (tail_end 64 (lit< tt) (t ++ m) l))

  module _ (need left : ℕ) (hn : need ≡ 64 - s.fill % 64) (hm : need ≤ length m) (hl : left ≡ (length m - need) % 64) where
    sum : length (held s) + need ≡ 64
    sum = omega (arith, length-held)

    enough : 64 ≤ length (held s ++ m)
    enough = let e : length (held s) + need ≡ 64 = sum in simp length-append (omega arith)

    front : take 64 (held s ++ m) ≡ held s ++ take need m
    front = ap (λ (k : ℕ). take k (held s ++ m)) (sym sum) ∙ take-append-add (held s) m need

    back : drop 64 (held s ++ m) ≡ drop need m
    back = ap (λ (k : ℕ). drop k (held s ++ m)) (sym sum) ∙ drop-append-add (held s) m need

    rest : drop (length m - left) m ≡ tail 64 (held s ++ m)
    unfolding tail
    rest =
        let e : need + (length m - need) / 64 * 64 ≡ length m - left = omega arith in
        sym
        (tail_step 64 (lit< tt) (held s ++ m) enough
        ∙ ap (tail 64) back
        ∙ ap (λ (k : ℕ). drop (k / 64 * 64) (drop need m)) (length-drop need m)
        ∙ drop-drop ((length m - need) / 64 * 64) need m
        ∙ ap (λ (k : ℕ). drop k m) e)

    full_block : (full : List ℕ) → full ≡ paste kept (s.fill % 64) m need → take 64 full ≡ take 64 (held s ++ m)
    full_block full e =
        let n : length (held s ++ take need m) ≡ 64 =
        length-append (held s) (take need m) ∙ ap (λ (k : ℕ). length (held s) + k) (length-take-le need m hm) ∙ sum in
        ap (take 64) (e ∙ put_kept need (omega arith) hm ∙ filled-full (held s ++ take need m) n ∙ sym front)
        ∙ take_all 64 (take 64 (held s ++ m)) (omega (arith, ap length front ∙ n))

    pub poured_long : (full w out : List ℕ) (c d : Core) → full ≡ paste kept (s.fill % 64) m need → w ≡ words (take 64 full)
        → c ≡ advanced s.core 512 w → d ≡ absorbed 64 block_step c (drop need m) → out ≡ paste (zeros 64) 0 (drop (length m - left) m) left
        → record { core = d; buffer = out; fill = left; total = s.total } ≡ poured_into s m
    unfolding poured_into poured state_of block_step
    poured_long full w out c d ef ew ec ed eo =
        let r : List ℕ = drop (length m - left) m in
        let n : length r ≡ left = length-drop (length m - left) m ∙ omega arith in
        let b : out ≡ filled 64 r = eo ∙ put_empty r left (omega arith) (omega arith) ∙ ap (filled 64) (take_all left r (omega arith)) in
        let e : c ≡ block_step s.core (take 64 (held s ++ m)) = ec ∙ ap (advanced s.core 512) (ew ∙ ap words (full_block full ef)) in
        let a : d ≡ absorbed 64 block_step s.core (held s ++ m) =
        ed ∙ ap₂ (absorbed 64 block_step) e (sym back) ∙ sym (absorbed_step 64 (lit< tt) block_step s.core (held s ++ m) enough) in
        (λ k. record { core = a k; buffer = b k; fill = sym n k; total = s.total })
        ∙ ap (λ (x : List ℕ). state_of (absorbed 64 block_step s.core (held s ++ m)) x s.total) rest
