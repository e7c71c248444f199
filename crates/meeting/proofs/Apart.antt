-- The premises of the meeting, which are said by the box's definitions, in the desk's own. Assumes nothing.
use Prim.Native.Nat.{ℕ, ◌<◌}
use mathlib.Core.Path.{◌≡◌, refl, sym, ap, ◌∙◌}
use mathlib.Core.Bool.{Bool, true, false}
use mathlib.Core.List.{List}
use lib.ListN.{length}
use borrow.Author.Tests.{lt-ltb}
use Rattle.std.specs.Prelude.{Option, None, Some, Result, Ok}
use Rattle.std.specs.Result.{result_unwrap_or}
use Rattle.answers.specs.declared.Refusal.{Refusal}
use Rattle.keys.specs.CardNumber.{card_fits}
use Rattle.keys.proofs.AnswerLaws.{card_is, packed_is}
use Rattle.table.specs.declared.CardId.{CardId}
use Rattle.table.specs.declared.Entry.{Entry}
use Rattle.table.specs.Table.{readings}
use Rattle.table.specs.Seen.{first}
use Rattle.table.proofs.Touch.{last_reads}
use Rattle.card.specs.declared.Card.{Card}
use Rattle.desk.specs.declared.Desk.{Desk}
use Rattle.desk.specs.Desk.{master_key}
use Rattle.desk.specs.Check.{above, above_last}
use Rattle.meeting.specs.Meeting.{key_for, KeysOf}

-- the counter is above the one that the table has of the card, if any
pub above_so : (t : List Entry) (c : CardId) (n : ℕ) → ((l : ℕ) → first (readings c t) ≡ Some l → l < n) → above_last t c n ≡ true
unfolding above_last
above_so t c n h = ap (λ (o : Option ℕ). above o n) (last_reads c t) ∙ go (first (readings c t)) h
  where
    go : (o : Option ℕ) → ((l : ℕ) → o ≡ Some l → l < n) → above o n ≡ true
    go None h = refl
    go (Some l) h = lt-ltb _ _ (h l refl)

-- a card's master key is what the box gives
by_box : (p : Bool) (issuer pan : List ℕ) (q : ℕ) → length issuer ≡ 32 → card_fits pan q ≡ true → key_for p issuer pan q ≡ Ok (master_key p issuer pan q)
unfolding master_key
by_box true issuer pan q l f = packed_is issuer l pan q f
by_box false issuer pan q l f = card_is issuer l pan q f

-- of two answers to one call both keys are the same
one_key : (a : Result (List ℕ) Refusal) (x y : List ℕ) → a ≡ Ok x → a ≡ Ok y → x ≡ y
one_key a x y e f = ap (λ (r : Result (List ℕ) Refusal). result_unwrap_or r x) (sym e ∙ f)

pub record Own (d : Desk) (pan : List ℕ) (q : ℕ) (r : Card) : Type 0 where
  pub ac : r.ac ≡ master_key d.packed d.ac pan q
  pub smi : r.smi ≡ master_key d.packed d.smi pan q
  pub smc : r.smc ≡ master_key d.packed d.smc pan q

pub own : (d : Desk) (pan : List ℕ) (q : ℕ) (r : Card) → KeysOf d pan q r → Own d pan q r
own d pan q r k =
    record {
      ac = one_key _ r.ac _ k.ac (by_box d.packed d.ac pan q k.ac_long k.fits);
      smi = one_key _ r.smi _ k.smi (by_box d.packed d.smi pan q k.smi_long k.fits);
      smc = one_key _ r.smc _ k.smc (by_box d.packed d.smc pan q k.smc_long k.fits);
    }
