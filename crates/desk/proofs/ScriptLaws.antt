-- A command's header and message in a lent buffer, way by way; what the crates below answer stands as a variable with its contract. Assumes nothing.
use Prim.Native.Nat.{ℕ, ◌+◌, ◌-◌, ◌≤◌, ◌<◌}
use native.Mathlib.Omega.{arith}
use mathlib.Core.Path.{◌≡◌, refl, sym, ap, ap₂, ◌∙◌}
use mathlib.Core.Logic.{◌⊎◌, inl, inr}
use mathlib.Core.Bool.{Bool, true, false, not, cond}
use mathlib.Core.List.{List, [], ◌++◌}
use lib.Dec.{eqb}
use lib.ListN.{length, length-append}
use borrow.Rule.Slice.PartMut.{put_mid}
use borrow.Author.Tests.{eq-eqb, ne_eqb, le-leb, lt-leb, not-true, not-false}
use Rattle.std.specs.Prelude.{Result, Ok, Err}
use Rattle.answers.specs.declared.Refusal.{Refusal}
use Rattle.answers.specs.declared.Refusal.TheVariants.{Input, CardNumber, PinDigits, UnknownCard}
use Rattle.answers.specs.Refusals.{number}
use Rattle.answers.specs.Answers.{number_told}
use Rattle.octets.specs.Laid.{laid}
use Rattle.octets.proofs.LaidLaws.{length-laid, laid_laid}
use Rattle.gost.specs.Gost.{encipher}
use Rattle.gost.proofs.Inverse.{length-encipher}
use Rattle.keys.specs.CardNumber.{card_fits}
use Rattle.pin.specs.PinBlock.{pin_fits, pin_block}
use Rattle.pin.specs.Answers.{encipher_pin}
use Rattle.pin.proofs.AnswerLaws.{encipher-is, encipher_not}
use Rattle.shapes.specs.declared.command.Command.{Command}
use Rattle.shapes.specs.declared.command.Command.TheVariants.{SetPin, SetMark, ClearMark}
use Rattle.shapes.specs.Shape.{place_of}
use Rattle.shapes.specs.Command.{header_of, tag_for}
use Rattle.shapes.proofs.LengthLaws.{largest_is}
use Rattle.shapes.proofs.CommandLaws.{header_four, tag_listed}
use Rattle.message.specs.Code.{message}
use Rattle.message.specs.Answers.{Written, wrapped, Wrote}
use Rattle.message.proofs.CodeLaws.{given_so}
use Rattle.message.proofs.Return.{message_size, wraps_there}
use Rattle.table.specs.declared.CardId.{CardId}
use Rattle.table.specs.Table.{held}
use Rattle.message.proofs.WrapLaws.{copied}
use Rattle.desk.specs.declared.Desk.{Desk}
use Rattle.desk.specs.Desk.{id_of}
use Rattle.desk.specs.Wrap.{ordered, script_of, pin_good, carried, script, unwritten, writes, wraps_command, wraps_order, wraps_listed, wraps}

-- the command of an instruction
pub order_pin : (n : ℕ) → n ≡ 0x24 → Ok SetPin ≡ ordered n
unfolding ordered
order_pin n h = simp (eq-eqb _ _ h)

module _ (n : ℕ) (h : n ≡ 0x24 → ⊥) where
  pub order_block : n ≡ 0x1e → Ok SetMark ≡ ordered n
  unfolding ordered
  order_block e = simp (ne_eqb _ _ h, eq-eqb _ _ e)

  module _ (k : n ≡ 0x1e → ⊥) where
    pub order_unblock : n ≡ 0x18 → Ok ClearMark ≡ ordered n
    unfolding ordered
    order_unblock e = simp (ne_eqb _ _ h, ne_eqb _ _ k, eq-eqb _ _ e)

    pub order_none : (n ≡ 0x18 → ⊥) → Err Input ≡ ordered n
    unfolding ordered
    order_none l = simp (ne_eqb _ _ h, ne_eqb _ _ k, ne_eqb _ _ l)

pub none_ordered : (n : ℕ) (q : Refusal) → ordered n ≡ Err q → q ≡ Input
unfolding ordered
none_ordered n q e = go (eqb n 0x24) (eqb n 0x1e) (eqb n 0x18) e
  where
    go : (a b c : Bool) → cond {A = Result Command Refusal} a (Ok SetPin) (cond b (Ok SetMark) (cond c (Ok ClearMark) (Err Input))) ≡ Err q → q ≡ Input
    go true b c w = absurd (cc)
    go false true c w = absurd (cc)
    go false false true w = absurd (cc)
    go false false false w = cc

-- one outcome for another
for_it : {v w : Written} → v ≡ w → (r : ℕ) (x : List ℕ) → Wrote v r x → Wrote w r x
for_it e r x z = record { code = z.code ∙ ap (λ (y : Written). y.code) e; buffer = z.buffer ∙ ap (λ (y : Written). y.buffer) e }

-- a string at a place
module _ (s b : List ℕ) (place : ℕ) where
  pub writes_not : length b < place + length s → Wrote (writes s b place) 3 b
  unfolding writes
  writes_not h = let w = lt-leb _ _ h in record { code = simp w; buffer = simp w }

  pub writes_so : place + length s ≤ length b → writes s b place ≡ record { code = 0; buffer = laid b place s }
  unfolding writes
  writes_so h = simp (le-leb _ _ h)

-- a header copied
pub header_laid : (b : List ℕ) (p : ℕ) (y h : List ℕ) → y ≡ h → length h ≡ 4 → put_mid p (p + 4 - p) b y ≡ laid b p h
header_laid b p y h e n = copied b p (p + 4 - p) h y e (omega (arith, n))

-- header and message
module _ (c : Command) (smi d b : List ℕ) (place : ℕ) where
  pub length-script : length (script c smi d) ≡ 4 + (place_of (length d) + length d + 6)
  unfolding script
  length-script = length-append (header_of c) _ ∙ ap₂ (λ (x y : ℕ). x + y) (header_four c) (message_size smi (header_of c) (tag_for c) d)

  module _ (p : ℕ) (e : p ≡ place_of (length d)) where
    pub script_none : (length b < place) ⊎ (length b - place < 10 + length d + p) → Wrote (writes (script c smi d) b place) 3 b
    script_none (inl h) = writes_not (script c smi d) b place (omega arith)
    script_none (inr h) = writes_not (script c smi d) b place (omega (arith, length-script))

    pub script_fits : place ≤ length b → 10 + length d + p ≤ length b - place → place + length (script c smi d) ≤ length b
    script_fits h l = omega (arith, length-script)

  module _ (f : place + length (script c smi d) ≤ length b) where
    pub header_fits : place + 4 ≤ length b
    header_fits = omega (arith, length-script)

    module _ (k : length smi ≡ 32) (m : length d ≤ 255) where
      pub script_made : wrapped smi (header_of c) (tag_for c) d (laid b place (header_of c)) (place + 4) ≡ writes (script c smi d) b place
      unfolding script
      script_made =
          let hd = header_of c in
          let ms = message smi hd (tag_for c) d in
          let four = header_four c in
          let n : length (hd ++ ms) ≡ length hd + length ms = length-append hd ms in
          let z : length (laid b place hd) ≡ length b = length-laid b place hd (omega arith) in
          wraps_there smi hd (tag_for c) d (laid b place hd) (place + 4) (given_so smi hd k four) (tag_listed c) (omega (arith, largest_is)) (omega arith)
          ∙ ap {B = Written} (λ (x : List ℕ). record { code = 0; buffer = x }) (laid_laid b place hd (omega arith) ms (place + 4) (omega arith))
          ∙ sym (writes_so (hd ++ ms) b place f)

      pub script_written : (b1 : List ℕ) → b1 ≡ laid b place (header_of c) → (hd : List ℕ) → hd ≡ header_of c → (t : ℕ) → t ≡ tag_for c → (r : ℕ) (x : List ℕ)
          → Wrote (wrapped smi hd t d b1 (place + 4)) r x → Wrote (writes (script c smi d) b place) r x
      script_written b1 e1 hd e2 t e3 r x w =
          for_it
          (ap (λ (y : List ℕ). wrapped smi hd t d y (place + 4)) e1 ∙ ap₂ (λ (y : List ℕ) (n : ℕ). wrapped smi y n d (laid b place (header_of c)) (place + 4)) e2 e3 ∙ script_made)
          r x w

-- a PIN
module _ (smi smc pin b : List ℕ) (place : ℕ) (k : length smc ≡ 32) (e : Result (List ℕ) Refusal) (f : e ≡ encipher_pin smc pin) where
  pub pin_not : (number_told e ≡ 0 → ⊥) → Wrote (wraps_command SetPin smi smc pin b place) 12 b
  unfolding wraps_command pin_good
  pin_not h = go (pin_fits 0 (length pin) pin) refl
    where
      go : (t : Bool) → pin_fits 0 (length pin) pin ≡ t → Wrote (cond t (writes (script SetPin smi (carried SetPin smc pin)) b place) (unwritten b PinDigits)) 12 b
      go true w = absurd (h (ap number_told (f ∙ encipher-is smc pin k w)))
      go false w = record { code = refl; buffer = refl }

  pub pin_refused : (q : Refusal) → e ≡ Err q → Wrote (wraps_command SetPin smi smc pin b place) (number q) b
  unfolding wraps_command pin_good
  pin_refused q h = go (pin_fits 0 (length pin) pin) refl
    where
      go : (t : Bool) → pin_fits 0 (length pin) pin ≡ t → Wrote (cond t (writes (script SetPin smi (carried SetPin smc pin)) b place) (unwritten b PinDigits)) (number q) b
      go true w = let z : Err q ≡ Ok (encipher smc (pin_block pin)) = sym h ∙ f ∙ encipher-is smc pin k w in absurd (cc)
      go false w =
          let z : ◌≡◌ {A = Result (List ℕ) Refusal} (Err q) (Err PinDigits) = sym h ∙ f ∙ encipher_not smc pin k w in
          let y : q ≡ PinDigits = cc in
          record { code = ap number y; buffer = refl }

  module _ (x : List ℕ) (h : e ≡ Ok x) where
    pub pin_eight : length x ≤ 255
    pin_eight = go (pin_fits 0 (length pin) pin) refl
      where
        go : (t : Bool) → pin_fits 0 (length pin) pin ≡ t → length x ≤ 255
        go true w = let z : Ok x ≡ Ok (encipher smc (pin_block pin)) = sym h ∙ f ∙ encipher-is smc pin k w in let y : x ≡ encipher smc (pin_block pin) = cc in omega (arith, ap length y, length-encipher smc (pin_block pin))
        go false w = let z : Ok x ≡ Err PinDigits = sym h ∙ f ∙ encipher_not smc pin k w in absurd (cc)

    pub pin_so : writes (script SetPin smi x) b place ≡ wraps_command SetPin smi smc pin b place
    unfolding wraps_command pin_good carried
    pin_so = go (pin_fits 0 (length pin) pin) refl
      where
        go : (t : Bool) → pin_fits 0 (length pin) pin ≡ t
            → writes (script SetPin smi x) b place ≡ cond t (writes (script SetPin smi (encipher smc (pin_block pin))) b place) (unwritten b PinDigits)
        go true w =
            let z : Ok x ≡ Ok (encipher smc (pin_block pin)) = sym h ∙ f ∙ encipher-is smc pin k w in
            let y : x ≡ encipher smc (pin_block pin) = cc in
            ap (λ (s : List ℕ). writes (script SetPin smi s) b place) y
        go false w = let z : Ok x ≡ Err PinDigits = sym h ∙ f ∙ encipher_not smc pin k w in absurd (cc)

    pub pin_written : (r : ℕ) (y : List ℕ) → Wrote (writes (script SetPin smi x) b place) r y → Wrote (wraps_command SetPin smi smc pin b place) r y
    pin_written r y w = for_it pin_so r y w

-- a mark carries nothing
pub mark_written : (c : Command) → (c ≡ SetMark) ⊎ (c ≡ ClearMark) → (smi smc pin b : List ℕ) (place r : ℕ) (x : List ℕ) → Wrote (writes (script c smi []) b place) r x
    → Wrote (wraps_command c smi smc pin b place) r x
unfolding wraps_command pin_good carried
mark_written SetPin (inl h) smi smc pin b place r x w = absurd (cc)
mark_written SetPin (inr h) smi smc pin b place r x w = absurd (cc)
mark_written SetMark h smi smc pin b place r x w = w
mark_written ClearMark h smi smc pin b place r x w = w

pub of_command : (c k : Command) → c ≡ k → (smi smc pin b : List ℕ) (place r : ℕ) (x : List ℕ) → Wrote (wraps_command k smi smc pin b place) r x → Wrote (wraps_command c smi smc pin b place) r x
of_command c k e smi smc pin b place r x w = for_it (ap (λ (y : Command). wraps_command y smi smc pin b place) (sym e)) r x w

-- the whole call
module _ (d : Desk) (pan : List ℕ) (q i : ℕ) (g pin b : List ℕ) (place : ℕ) where
  pub wrap_none : (l : Result Command Refusal) → l ≡ ordered i → (w : Refusal) → l ≡ Err w → Wrote (wraps d pan q i g pin b place) 1 b
  unfolding wraps
  wrap_none l e w f =
      for_it (ap (λ (y : Result Command Refusal). wraps_listed d pan q y g pin b place) (ap {B = Result Command Refusal} Err (sym (none_ordered i w (sym e ∙ f))) ∙ sym f ∙ e)) 1 b
      (record { code = refl; buffer = refl })

  pub wrap_unordered : (l : Result Command Refusal) → l ≡ ordered i → (w : Refusal) → l ≡ Err w → Wrote (wraps d pan q i g pin b place) (number w) b
  unfolding wraps
  wrap_unordered l e w f =
      for_it (ap (λ (y : Result Command Refusal). wraps_listed d pan q y g pin b place) (sym f ∙ e)) (number w) b (record { code = refl; buffer = refl })

  module _ (l : Result Command Refusal) (e : l ≡ ordered i) (c : Command) (f : l ≡ Ok c) where
    by_order : (eight : Bool) → eqb (length g) 8 ≡ eight → wraps d pan q i g pin b place ≡ cond eight (wraps_order d pan q c g pin b place) (unwritten b Input)
    unfolding wraps
    by_order eight h =
        ap (λ (y : Result Command Refusal). wraps_listed d pan q y g pin b place) (sym e ∙ f) ∙ ap (λ (y : Bool). cond y (wraps_order d pan q c g pin b place) (unwritten b Input)) h

    pub wrap_length : (length g ≡ 8 → ⊥) → Wrote (wraps d pan q i g pin b place) 1 b
    wrap_length h = for_it (sym (by_order false (ne_eqb _ _ h))) 1 b (record { code = refl; buffer = refl })

    module _ (h : length g ≡ 8) (t : Bool) (u : t ≡ card_fits pan q) where
      by_card : (x : Bool) → card_fits pan q ≡ x → (y : Bool) → held (id_of pan q) d.places ≡ y
          → wraps d pan q i g pin b place
          ≡ cond x (cond y (wraps_command c (script_of d.packed d.smi pan q g) (script_of d.packed d.smc pan q g) pin b place) (unwritten b UnknownCard)) (unwritten b CardNumber)
      unfolding wraps_order
      by_card x v y w =
          by_order true (eq-eqb _ _ h)
          ∙ ap₂ (λ (j k : Bool). cond j (cond k (wraps_command c (script_of d.packed d.smi pan q g) (script_of d.packed d.smc pan q g) pin b place) (unwritten b UnknownCard)) (unwritten b CardNumber)) v w

      pub wrap_card : not t ≡ true → Wrote (wraps d pan q i g pin b place) 2 b
      wrap_card n = for_it (sym (by_card false (sym u ∙ not-true t n) _ refl)) 2 b (record { code = refl; buffer = refl })

      module _ (n : not t ≡ false) (id : CardId) (v : id ≡ id_of pan q) (k : Bool) (w : k ≡ held id d.places) where
        held_as : (y : Bool) → k ≡ y → held (id_of pan q) d.places ≡ y
        held_as y z = sym (ap (λ (o : CardId). held o d.places) v) ∙ sym w ∙ z

        pub wrap_unknown : not k ≡ true → Wrote (wraps d pan q i g pin b place) 19 b
        wrap_unknown z = for_it (sym (by_card true (sym u ∙ not-false t n) false (held_as false (not-true k z)))) 19 b (record { code = refl; buffer = refl })

        pub wrap_held : not k ≡ false → (smi smc : List ℕ) → smi ≡ script_of d.packed d.smi pan q g → smc ≡ script_of d.packed d.smc pan q g
            → (r : ℕ) (x : List ℕ) → Wrote (wraps_command c smi smc pin b place) r x → Wrote (wraps d pan q i g pin b place) r x
        wrap_held z smi smc a o r x p =
            for_it
            (ap₂ (λ (y s : List ℕ). wraps_command c y s pin b place) a o ∙ sym (by_card true (sym u ∙ not-false t n) true (held_as true (not-false k z))))
            r x p
