-- What the card answers to an Open the desk accepts, and the card its ARPC. Assumes nothing.
use Prim.Native.Nat.{ℕ, ◌+◌, ◌<◌}
use native.Mathlib.Omega.{arith}
use mathlib.Core.Path.{◌≡◌, refl, sym, ap, ap₂, ◌∙◌}
use Rattle.std.specs.Prelude.{Ok}
use mathlib.Core.Bool.{Bool, true}
use mathlib.Core.List.{List, [], ◌∷◌}
use lib.ListN.{length, get_or, set, length-set}
use lib.Seq.{sets, length-sets, get_or-set_same, get_or-set_other}
use borrow.Author.Tests.{eq-eqb}
use Rattle.octets.specs.Numbers.{be, be_octets}
use Rattle.octets.specs.Same.{same}
use Rattle.octets.proofs.NumberLaws.{length-be_octets, be-be_octets}
use Rattle.octets.proofs.Parts.{elements_all}
use Rattle.octets.proofs.SameLaws.{same_refl}
use Rattle.gost.specs.Gost.{subkeys}
use Rattle.derive.specs.Derivation.{derived, card_label}
use Rattle.keys.specs.CardNumber.{card_fits}
use Rattle.keys.specs.Seeds.{session_seed}
use Rattle.cryptogram.specs.declared.Kind.TheVariants.{Arqc}
use Rattle.cryptogram.specs.Cryptogram.{cryptogram_of, arpc_of}
use Rattle.cryptogram.proofs.DataLaws.{counter_over}
use Rattle.cryptogram.proofs.AnswerLaws.{length-cryptogram, length-arpc}
use Rattle.transaction.specs.Transaction.{is_arqc, kind_for, phase_for}
use Rattle.card.specs.declared.Card.{Card}
use Rattle.card.specs.declared.Reply.{Reply}
use Rattle.card.specs.Record.{sound}
use Rattle.card.specs.Calls.{Open, IssuerAnswer, gives, accepted, reply, step}
use Rattle.history.proofs.Change.{change}
use Rattle.history.proofs.Keeps.{keeps}
use Rattle.history.proofs.Does.{opens, answers, cryptogram_given}
use Rattle.table.specs.Table.{held}
use Rattle.table.specs.Calls.{each, kept_entry, keeping}
use Rattle.desk.specs.declared.Desk.{Desk}
use Rattle.desk.specs.declared.Checked.{Checked}
use Rattle.desk.specs.Desk.{id_of, with_places}
use Rattle.desk.specs.Check.{counter_in, session_of, above_last, checks_right, checks_known, checks}
use Rattle.meeting.specs.Meeting.{CanOpen, sent, OpenAccepted}
use Rattle.meeting.proofs.Apart.{above_so, Own, own}

-- the counter that was written into the data is read there
counter_there : (m : List ℕ) (n : ℕ) → length m ≡ 65 → n < 65536 → counter_in (sets m 31 (be_octets 2 n)) ≡ n
unfolding counter_in
counter_there m n l h =
    let s = be_octets 2 n in
    let x = get_or s 0 0 in
    let y = get_or s 1 0 in
    let e : s ≡ x ∷ y ∷ [] = elements_all s 2 (length-be_octets 2 n) in
    let k : length (set m 31 x) ≡ 65 = length-set m 31 x ∙ l in
    ap (λ (t : List ℕ). counter_in (sets m 31 t)) e
    ∙ ap₂ (λ (u v : ℕ). be (u ∷ v ∷ []))
    (get_or-set_other (set m 31 x) 32 31 y 0 (λ z. omega arith) ∙ get_or-set_same m 31 x 0 (omega arith))
    (get_or-set_same (set m 31 x) 32 y 0 (omega arith))
    ∙ ap be (sym e)
    ∙ be-be_octets 2 n h

module _ (d : Desk) (pan : List ℕ) (q : ℕ) (r : Card) (m csu : List ℕ) (c : CanOpen r) (k : Own d pan q r) (lm : length m ≡ 65) (lc : length csu ≡ 4) where
  -- the session key, and the card's answer
  abbrev key : List ℕ
  key = derived r.ac card_label (session_seed (r.atc + 1))

  opened_as : step r (Open m) ≡ reply (accepted r (Open m)) (gives r (Open m))
  opened_as = let a = c.counter in opens r c.is_sound m c.idle lm (λ z. omega arith) c.session

  arqc_is : (step r (Open m)).bytes ≡ cryptogram_of (subkeys 8 key) Arqc (r.atc + 1) m
  arqc_is =
      ap (λ (o : Reply). o.bytes) opened_as ∙ cryptogram_given r m
      ∙ ap (λ (b : Bool). cryptogram_of (subkeys 8 key) (kind_for b) (r.atc + 1) m) c.unblocked

  -- the desk's answer to an ARQC
  abbrev its_answer : List ℕ → Checked
  its_answer y = record { desk = with_places d (each (kept_entry (id_of pan q) (r.atc + 1)) d.places); arpc = arpc_of (subkeys 8 key) y csu }

  checked_as : card_fits pan q ≡ true → held (id_of pan q) d.places ≡ true → above_last d.places (id_of pan q) (r.atc + 1) ≡ true
      → (y : List ℕ) → y ≡ cryptogram_of (subkeys 8 key) Arqc (r.atc + 1) m
      → checks d pan q (sent r m) y csu ≡ Ok (its_answer y)
  unfolding checks checks_known checks_right session_of keeping
  checked_as f h a y e =
      let n = r.atc + 1 in
      let small = c.counter in
      let l : length (sent r m) ≡ 65 = length-sets m 31 (be_octets 2 n) ∙ lm in
      let u : length y ≡ 8 = ap length e ∙ length-cryptogram _ _ _ _ in
      let t : counter_in (sent r m) ≡ n = counter_there m n lm (omega arith) in
      let s : same (cryptogram_of (subkeys 8 key) Arqc n (sent r m)) y ≡ true = ap (λ (z : List ℕ). same z y) (counter_over _ Arqc n n m lm ∙ sym e) ∙ same_refl y in
      rw (eq-eqb _ _ l, eq-eqb _ _ u, eq-eqb _ _ lc, f, h, t, sym k.ac, s, a)

  -- the card's answer to the ARPC
  answered_so : (y : List ℕ) → y ≡ arpc_of (subkeys 8 key) (step r (Open m)).bytes csu → (step (step r (Open m)).card (IssuerAnswer y csu)).code ≡ 0
  answered_so y e =
      let o : sound (accepted r (Open m)) ≡ true = sym (ap (λ (x : Reply). sound x.card) opened_as) ∙ keeps c.is_sound (change r c.is_sound (Open m)) in
      ap (λ (x : Reply). (step x.card (IssuerAnswer y csu)).code) opened_as
      ∙ ap (λ (x : Reply). x.code)
      (answers (accepted r (Open m)) o csu (ap (λ (b : Bool). is_arqc (phase_for b)) c.unblocked) lc y (ap length e ∙ length-arpc _ _ _)
      (e ∙ ap (λ (x : Reply). arpc_of (subkeys 8 key) x.bytes csu) opened_as))

pub open_accepted : OpenAccepted
open_accepted d pan q r m csu c ks lm lc h a =
    let k = own d pan q r ks in
    let e = checked_as d pan q r m csu c k lm lc ks.fits h (above_so d.places (id_of pan q) (r.atc + 1) a) (step r (Open m)).bytes (arqc_is d pan q r m csu c k lm lc) in
    record {
      opened = ap (λ (o : Reply). o.code) (opened_as d pan q r m csu c k lm lc);
      answer = its_answer d pan q r m csu c k lm lc (step r (Open m)).bytes;
      checked = e;
      answered = answered_so d pan q r m csu c k lm lc _ refl;
    }
