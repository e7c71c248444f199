-- The places that table 1 gives, and the strings under the codes. Assumes nothing.
use mathlib.Core.Path.{◌≡◌, refl, sym, ap, ap₂, ◌∙◌}
use mathlib.Core.List.{List, [], ◌∷◌, ◌++◌, map}
use Prim.Native.Nat.{ℕ}
use native.Mathlib.Omega.{arith}
use borrow.Rule.Slice.PartMut.{put_mid}
use lib.ListN.{length, get_or, set, drop, replicate, get_or-append, length-set}
use lib.Seq.{sets, set-append_left, get_or-set_other}
use Rattle.octets.specs.Numbers.{be_octets, le_octets}
use Rattle.octets.proofs.Parts.{elements, elements_all}
use Rattle.cryptogram.specs.declared.Kind.{Kind}
use Rattle.cryptogram.specs.Data.{width, widths, fields, row, place, counter_place, issuer_place, data_length, kind_place, marked, card_data}
use Rattle.cryptogram.specs.Cryptogram.{twice, string, cryptogram_of, arpc_string}

-- table 1: each field stands in its row, and at its place
pub places : map place fields ≡ 0 ∷ 6 ∷ 12 ∷ 14 ∷ 19 ∷ 21 ∷ 24 ∷ 25 ∷ 29 ∷ 31 ∷ 33 ∷ []
unfolding place row fields widths width
places = refl

pub rows : map row fields ≡ 0 ∷ 1 ∷ 2 ∷ 3 ∷ 4 ∷ 5 ∷ 6 ∷ 7 ∷ 8 ∷ 9 ∷ 10 ∷ []
unfolding row fields
rows = refl

-- 01: "its own counter at offsets 31 and 32", the kind "at offset 36", of 65 data bytes
pub counter_place_lem : counter_place ≡ 31
unfolding counter_place place row fields widths width
counter_place_lem = refl

pub kind_place_lem : kind_place ≡ 36
unfolding kind_place issuer_place place row fields widths width
kind_place_lem = refl

pub data_length_lem : data_length ≡ 65
unfolding data_length widths width fields
data_length_lem = refl

-- stores in the data, made in the string
module _ (d p : List ℕ) (e : length d ≡ 65) (x y : ℕ) where
  inside : (m : ℕ) → set (set (set (d ++ p) 31 x) 32 y) 36 m ≡ set (set (set d 31 x) 32 y) 36 m ++ p
  inside m =
      let a : length (set d 31 x) ≡ 65 = length-set d 31 x ∙ e in
      let b : length (set (set d 31 x) 32 y) ≡ 65 = length-set (set d 31 x) 32 y ∙ a in
      ap (λ (s : List ℕ). set (set s 32 y) 36 m) (set-append_left d p 31 x (omega arith))
      ∙ ap (λ (s : List ℕ). set s 36 m) (set-append_left (set d 31 x) p 32 y (omega arith))
      ∙ set-append_left (set (set d 31 x) 32 y) p 36 m (omega arith)

  kept : get_or (set (set (d ++ p) 31 x) 32 y) 36 0 ≡ get_or d 36 0
  kept =
      get_or-set_other (set (d ++ p) 31 x) 32 36 y 0 (λ z. omega arith)
      ∙ get_or-set_other (d ++ p) 31 36 x 0 (λ z. omega arith)
      ∙ get_or-append d p 0 36 (omega arith)

-- the string, from the padded data s and the octets c of the counter
pub string_made : (kind : Kind) (atc : ℕ) (d : List ℕ) → length d ≡ 65 → (c : List ℕ) → c ≡ be_octets 2 atc → (s : List ℕ) → s ≡ d ++ 0x80 ∷ replicate 6 0
    → (m : ℕ) → m ≡ marked kind (get_or (set (set s 31 (get_or c 0 0)) 32 (get_or c 1 0)) 36 0)
    → set (set (set s 31 (get_or c 0 0)) 32 (get_or c 1 0)) 36 m ≡ string kind atc d
unfolding string card_data be_octets le_octets kind_place issuer_place counter_place place row fields widths width
string_made kind atc d e c ec s es m em =
    let p : List ℕ = 0x80 ∷ replicate 6 0 in
    let x = get_or c 0 0 in
    let y = get_or c 1 0 in
    let k : m ≡ marked kind (get_or d 36 0) = em ∙ ap (λ (t : List ℕ). marked kind (get_or (set (set t 31 x) 32 y) 36 0)) es ∙ ap (marked kind) (kept d p e x y) in
    ap₂ (λ (t : List ℕ) (v : ℕ). set (set (set t 31 x) 32 y) 36 v) es k
    ∙ inside d p e x y (marked kind (get_or d 36 0))
    ∙ ap (λ (t : List ℕ). set (set (set d 31 (get_or t 0 0)) 32 (get_or t 1 0)) 36 (marked kind (get_or d 36 0)) ++ p) ec

-- the string under an ARPC, element by element, and its parts laid in one after the other
pub arpc_made : (c u : List ℕ) → length c ≡ 8 → length u ≡ 4
    → (get_or c 0 0 ∷ get_or c 1 0 ∷ get_or c 2 0 ∷ get_or c 3 0 ∷ get_or c 4 0 ∷ get_or c 5 0 ∷ get_or c 6 0 ∷ get_or c 7 0 ∷ [])
    ++ (get_or u 0 0 ∷ get_or u 1 0 ∷ get_or u 2 0 ∷ get_or u 3 0 ∷ []) ++ replicate 4 0 ++ 0x80 ∷ replicate 55 0 ≡ arpc_string c u
unfolding arpc_string
arpc_made c u ec eu = ap₂ (λ (x y : List ℕ). x ++ y ++ replicate 4 0 ++ 0x80 ∷ replicate 55 0) (sym (elements_all c 8 ec)) (sym (elements_all u 4 eu))

pub arpc_laid : (c u x y : List ℕ) → x ≡ c → y ≡ u → length c ≡ 8 → length u ≡ 4 → set (put_mid 8 4 (x ++ drop 8 (replicate 72 0)) y) 16 0x80 ≡ arpc_string c u
arpc_laid c u x y ex ey ec eu =
    ap₂ (λ (s t : List ℕ). set (put_mid 8 4 (s ++ drop 8 (replicate 72 0)) t) 16 0x80) (ex ∙ elements_all c 8 ec) (ey ∙ elements_all u 4 eu) ∙ arpc_made c u ec eu

pub twice_made : (c : List ℕ) → length c ≡ 4
    → get_or c 0 0 ∷ get_or c 1 0 ∷ get_or c 2 0 ∷ get_or c 3 0 ∷ get_or c 0 0 ∷ get_or c 1 0 ∷ get_or c 2 0 ∷ get_or c 3 0 ∷ [] ≡ twice c
unfolding twice
twice_made c e = sym (ap twice (elements_all c 4 e))

-- what the data hold at 31, 32 and in the upper half of 36 does not matter
marked_over : (kind kind' : Kind) (b : ℕ) → marked kind (marked kind' b) ≡ marked kind b
unfolding marked
marked_over kind kind' b = omega arith

pub overwritten : (kind kind' : Kind) (atc atc' : ℕ) (d : List ℕ) → length d ≡ 65 → card_data kind atc (card_data kind' atc' d) ≡ card_data kind atc d
unfolding card_data be_octets le_octets kind_place issuer_place counter_place place row fields widths width
overwritten kind kind' atc atc' d e =
    ap (λ (s : List ℕ). card_data kind atc (card_data kind' atc' s)) (elements_all d 65 e)
    ∙ ap (λ (m : ℕ). set (sets (elements d 0 0 65) 31 (be_octets 2 atc)) 36 m) (marked_over kind kind' (get_or d 36 0))
    ∙ sym (ap (card_data kind atc) (elements_all d 65 e))

-- and a cryptogram is the same for data with any counter in them
pub counter_over : (ks : List ℕ) (kind : Kind) (atc atc' : ℕ) (d : List ℕ) → length d ≡ 65 → cryptogram_of ks kind atc (sets d 31 (be_octets 2 atc')) ≡ cryptogram_of ks kind atc d
unfolding cryptogram_of string card_data be_octets le_octets kind_place issuer_place counter_place place row fields widths width
counter_over ks kind atc atc' d e =
    ap (λ (s : List ℕ). cryptogram_of ks kind atc (sets s 31 (be_octets 2 atc'))) (elements_all d 65 e) ∙ sym (ap (cryptogram_of ks kind atc) (elements_all d 65 e))
