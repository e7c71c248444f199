-- A command wrapped under the keys of an open transaction is accepted, and what it orders is pending; what an Open gives, and when an issuer answers well.
-- Assumes nothing.
use Prim.Native.Nat.{ℕ, ◌+◌, ◌≤◌}
use native.Mathlib.Omega.{arith}
use mathlib.Core.Path.{◌≡◌, refl, sym, ap, ap₂, subst, ◌∙◌}
use mathlib.Core.Bool.{true, false}
use mathlib.Core.List.{List}
use lib.ListN.{length}
use borrow.Author.Tests.{eq-eqb, ne_eqb}
use Rattle.std.specs.Prelude.{Result, Ok, is_ok}
use Rattle.answers.specs.declared.Refusal.{Refusal}
use Rattle.octets.specs.Same.{same}
use Rattle.octets.proofs.SameLaws.{same_refl}
use Rattle.shapes.specs.declared.command.Command.{Command}
use Rattle.shapes.specs.declared.command.Command.TheVariants.{SetPin}
use Rattle.shapes.specs.Length.{largest}
use Rattle.shapes.specs.Shape.{data_of, place_of}
use Rattle.shapes.specs.Command.{header_of, tag_for, length_for, command_of}
use Rattle.shapes.proofs.CommandLaws.{its_listed, header_four, tag_listed, length-short}
use Rattle.gost.specs.Gost.{subkeys}
use Rattle.derive.specs.Derivation.{derived, card_label}
use Rattle.derive.proofs.Laws.{length-derived}
use Rattle.keys.specs.Seeds.{session_seed}
use Rattle.pin.specs.declared.Pin.{Pin}
use Rattle.message.specs.Code.{message, given}
use Rattle.message.proofs.CodeLaws.{given_so}
use Rattle.message.proofs.Return.{open_made, data_made, Taken, taken}
use Rattle.cryptogram.specs.Cryptogram.{cryptogram_of, arpc_of}
use Rattle.transaction.specs.Transaction.{is_open, is_arqc, kind_for}
use Rattle.card.specs.declared.Card.{Card}
use Rattle.card.specs.Record.{sound, with_transaction}
use Rattle.card.specs.Keys.{session_key_of}
use Rattle.card.specs.Calls.{Open, IssuerAnswer, Script, judged_under, arpc_for, grown, cryptogram_for, gives, orders, pend_all, accepted, reply, plain, step}
use Rattle.history.specs.Demand2.{Accepts, block_read}
use Rattle.history.proofs.Change.{same_block, by, step_by}
use Rattle.history.proofs.Accepted.{passed}

-- the message of a command with data d, under the SMI key of the transaction's cryptogram
abbrev pub wrapped_for : Card → Command → List ℕ → List ℕ
wrapped_for r c d = message (derived r.smi card_label r.transaction.cryptogram) (header_of c) (tag_for c) d

module _ (r : Card) (c : Command) (d : List ℕ) (l : length d ≡ length_for c) where
  few : length d ≤ largest
  few = let s = (length-short c).1 in omega arith

  are_given : given (derived r.smi card_label r.transaction.cryptogram) (header_of c) ≡ true
  are_given = given_so _ _ (length-derived _ _ _) (header_four c)

  made : Taken (derived r.smi card_label r.transaction.cryptogram) (header_of c) (wrapped_for r c d) (tag_for c) (place_of (length d)) (length d)
  made = taken _ _ _ _ _ _ (open_made _ (header_of c) (tag_for c) d are_given (tag_listed c) few)

  its_block : block_read r (data_of (wrapped_for r c d)) ≡ block_read r d
  its_block = ap (block_read r) (data_made _ (header_of c) (tag_for c) d are_given (tag_listed c) few)

  module _ (s : sound r ≡ true) (o : is_open r.transaction.phase ≡ true) (f : r.counters.failures ≡ 65535 → ⊥) (p : c ≡ SetPin → is_ok (block_read r d) ≡ true) where
    pub accepts : Accepts r (header_of c) (wrapped_for r c d)
    accepts =
        record {
          sound = s;
          phase = o;
          header = header_four c;
          shape = made.shaped_so;
          command = c;
          instruction = ap₂ (command_of (header_of c)) (sym made.the_tag) (sym made.the_length ∙ l) ∙ its_listed c;
          counter = f;
          code = made.coded_so;
          format = λ z. ap is_ok its_block ∙ p z;
        }

    pub takes_it : step r (Script (header_of c) (wrapped_for r c d)) ≡ plain (with_transaction r (pend_all (orders (Ok c) (block_read r d)) r.transaction)) 0
    unfolding accepts
    takes_it =
        step_by r s (Script (header_of c) (wrapped_for r c d))
        ∙ ap (by r (Script (header_of c) (wrapped_for r c d))) (passed r (header_of c) (wrapped_for r c d) accepts)
        ∙ ap₂ (λ (q : Result Command Refusal) (x : Result Pin Refusal). plain (with_transaction r (pend_all (orders q x) r.transaction)) 0) accepts.instruction (same_block r (data_of (wrapped_for r c d)) ∙ its_block)

module _ (r : Card) (s : sound r ≡ true) where
  -- an Open with none open, of 65 bytes, where no counter is full
  pub opens : (d : List ℕ) → is_open r.transaction.phase ≡ false → length d ≡ 65 → (r.atc ≡ 65535 → ⊥) → (r.counters.session ≡ 65535 → ⊥)
      → step r (Open d) ≡ reply (accepted r (Open d)) (gives r (Open d))
  unfolding judged_under
  opens d o l a n = step_by r s (Open d) ∙ rw (o, eq-eqb _ _ l, ne_eqb _ _ a, ne_eqb _ _ n)

  -- an issuer's answer to an ARQC with the ARPC of its cryptogram
  pub answers : (u : List ℕ) → is_arqc r.transaction.phase ≡ true → length u ≡ 4
      → (x : List ℕ) → length x ≡ 8 → x ≡ arpc_of (subkeys 8 (derived r.ac card_label (session_seed r.atc))) r.transaction.cryptogram u
      → step r (IssuerAnswer x u) ≡ plain (accepted r (IssuerAnswer x u)) 0
  unfolding judged_under arpc_for session_key_of
  answers u o l x n e =
      let z : same x (arpc_for r u) ≡ true = subst (λ (y : List ℕ). same x y ≡ true) e (same_refl x) in
      step_by r s (IssuerAnswer x u) ∙ rw (o, eq-eqb _ _ n, eq-eqb _ _ l, z)

-- the cryptogram that an Open gives
pub cryptogram_given : (r : Card) (d : List ℕ)
    → cryptogram_for (grown r) d ≡ cryptogram_of (subkeys 8 (derived r.ac card_label (session_seed (r.atc + 1)))) (kind_for r.mark) (r.atc + 1) d
unfolding cryptogram_for session_key_of
cryptogram_given r d = refl
