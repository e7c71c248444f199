-- One law for each way out of a call. Assumes nothing.
use Prim.Native.Nat.{ℕ, ◌+◌, ◌-◌, ◌≤◌, ◌<◌}
use native.Mathlib.Omega.{arith}
use native.Mathlib.Nat.{add-sub_cancel_left}
use mathlib.Core.Path.{◌≡◌, sym, ap, ap₂, subst, ◌∙◌}
use mathlib.Core.Bool.{Bool, true, false, not, cond}
use mathlib.Core.List.{List, []}
use lib.Dec.{eqb}
use lib.ListN.{length, take, drop, length-append}
use borrow.Author.Tests.{eq-eqb, ne_eqb, le-leb, lt-leb, not-true, not-false}
use Rattle.answers.specs.declared.Refusal.{Refusal}
use Rattle.answers.specs.Refusals.{number}
use Rattle.answers.specs.declared.Refusal.TheVariants.{PhaseWrong, NotListed}
use Rattle.octets.specs.Same.{same}
use Rattle.octets.proofs.NumberLaws.{length-be_octets}
use Rattle.std.specs.Prelude.{Result, Ok, Err}
use Rattle.shapes.specs.declared.Found.{Found}
use Rattle.shapes.specs.declared.command.Command.{Command}
use Rattle.shapes.specs.declared.command.Command.TheVariants.{SetPin, SetMark, ClearMark}
use Rattle.shapes.specs.Shape.{length_of, tag_of, data_of, data_of_under, shape}
use Rattle.shapes.specs.Command.{command_of, Lists}
use Rattle.shapes.specs.Answers.{shaped, Tells}
use Rattle.shapes.proofs.CommandLaws.{why_unlisted_lem}
use Rattle.shapes.proofs.AnswerLaws.{Told, told_data, told_refused}
use Rattle.gost.specs.Gost.{through, forth, subkeys, encipher}
use Rattle.hash.specs.Hash.{hash256}
use Rattle.derive.specs.Derivation.{derived, card_label}
use Rattle.derive.specs.Answers.{seed_fits}
use Rattle.derive.specs.Kept.{derived_kept}
use Rattle.derive.proofs.Laws as derivations
use Rattle.derive.proofs.Laws.{length-derived}
use Rattle.keys.specs.Seeds.{session_seed}
use Rattle.keys.proofs.AnswerLaws.{counter_yes, session_kept, script_kept, session_is, script_is}
use Rattle.keys.specs.Answers.{session_key, script_key, counter_key, session_key_kept, script_key_kept}
use Rattle.pin.specs.declared.Pin.{Pin}
use Rattle.pin.specs.declared.Counters.{Counters as CounterStruct}
use Rattle.pin.specs.CounterBlock.{counter_block, counters_of}
use Rattle.pin.specs.Answers.{decipher_pin, read_block}
use Rattle.message.specs.Code.{code_fits}
use Rattle.cryptogram.specs.declared.Kind.{Kind}
use Rattle.cryptogram.specs.Answers.{cryptogram_answer, arpc_answer, kind_number}
use Rattle.cryptogram.proofs.AnswerLaws as cryptograms
use Rattle.transaction.specs.declared.PendingMark.{PendingMark}
use Rattle.transaction.specs.declared.Transaction.{Transaction}
use Rattle.transaction.specs.Transaction.{is_open, none, spoilt, kind_for, just_opened, is_arqc, mark_for, mark_after}
use Rattle.card.specs.declared.Card.{Card}
use Rattle.card.specs.declared.Reply.{Reply}
use Rattle.card.specs.Record.{full_tries, sound, with_transaction, with_kept, with_tries, with_counters, with_session, one_failed, one_misread}
use Rattle.card.specs.Keys.{session_key_of, smi_key, smc_key, counter_key_of}
use Rattle.card.specs.Calls.{Call, Open, IssuerAnswer, Script, Close, Withdraw, Counters, CheckPin, Verdict, refuse, accept, first_struck, read, judged_script, judged, judged_under, grown, cryptogram_for, arpc_for, counters_for}
use Rattle.card.specs.Calls.{script_checks, gives, new_pin, new_mark, pend, settled, settled_record, is_kept, pin_checks, accepted, due_under, after_under, reply, plain, step}
use Rattle.card.specs.Inner.{script_as, taken_as, obeyed_as, judged_as, check_as, compared_as}
use Rattle.card.specs.Words.{Fits}
use Rattle.card.specs.Personalise.{blank, personalised}

-- what is pending laid over what is kept
module _ (r : Card) (t : Transaction) (b : Bool) (e : b ≡ mark_after t.mark r.mark) where
  pub laid_none : t.count ≡ 0 → with_kept r (record { pin = r.pin; count = r.count; mark = b }) ≡ settled_record r t
  unfolding settled
  laid_none h = rw (e, eq-eqb _ _ h)

  pub laid_some : (t.count ≡ 0 → ⊥) → with_tries (with_kept r (record { pin = t.pin; count = t.count; mark = b })) full_tries ≡ settled_record r t
  unfolding settled
  laid_some h = rw (e, ne_eqb _ _ h)

-- the keys, the ARPC and the counter block: by the answers of the crates below
length-session : (r : Card) → length (session_key_of r) ≡ 32
unfolding session_key_of
length-session r = length-derived _ _ _

same_ok : {x y : List ℕ} → ◌≡◌ {A = Result (List ℕ) Refusal} (Ok x) (Ok y) → x ≡ y
same_ok e = cc

-- r is what a crate below answers
module _ {x : Result (List ℕ) Refusal} {y : List ℕ} (o : x ≡ Ok y) where
  pub key_session : (r : Card) → length r.ac ≡ 32 → x ≡ session_key r.ac r.atc → y ≡ session_key_of r
  unfolding session_key_of
  key_session r k e = same_ok (sym o ∙ e ∙ session_is r.ac k r.atc)

  pub key_session_kept : (r : Card) (ws : List ℕ) → length r.ac ≡ 32 → length ws ≡ 256 → Fits ws r.ac → x ≡ session_key_kept ws r.atc → y ≡ session_key_of r
  key_session_kept r ws k l f e = key_session r k (e ∙ ap (λ (v : List ℕ). session_key_kept v r.atc) (f l) ∙ session_kept r.ac r.atc k)

  pub key_script : (key g : List ℕ) → length key ≡ 32 → length g ≡ 8 → x ≡ script_key key g → y ≡ derived key card_label g
  key_script key g k l e = same_ok (sym o ∙ e ∙ script_is key k g l)

  pub key_script_kept : (key ws g : List ℕ) → length key ≡ 32 → length ws ≡ 256 → length g ≡ 8 → Fits ws key → x ≡ script_key_kept ws g → y ≡ derived key card_label g
  key_script_kept key ws g k l n f e = key_script key g k n (e ∙ ap (λ (v : List ℕ). script_key_kept v g) (f l) ∙ script_kept key g k)

-- words of whatever key are no refusal
module _ (ws : List ℕ) (l : length ws ≡ 256) where
  pub session_answers : (atc : ℕ) → session_key_kept ws atc ≡ Ok (derived_kept ws card_label (session_seed atc))
  unfolding session_key_kept
  session_answers atc = sym (derivations.kept_fits_lem ws card_label (session_seed atc) l)

  pub script_answers : (g : List ℕ) → length g ≡ 8 → script_key_kept ws g ≡ Ok (derived_kept ws card_label g)
  unfolding script_key_kept seed_fits
  script_answers g n = simp (eq-eqb _ _ n) (sym (derivations.kept_fits_lem ws card_label g l))

-- words that are none fit every key
pub none_fits : (key : List ℕ) → Fits [] key
none_fits key e = absurd (omega arith)

length-counters : (c : CounterStruct) → length (counter_block c) ≡ 8
unfolding counter_block
length-counters c =
    let s = length-be_octets 2 c.session in
    let f = length-be_octets 2 c.failures in
    let d = length-be_octets 2 c.decipherments in
    let a = length-be_octets 2 c.authentications in
    simp length-append (omega arith)

module _ (r : Card) (k : List ℕ) (ek : k ≡ session_key_of r) where
  pub arpc_made : (csu y : List ℕ) (x : Result (List ℕ) Refusal) → length r.transaction.cryptogram ≡ 8 → length csu ≡ 4 → x ≡ arpc_answer k r.transaction.cryptogram csu → x ≡ Ok y → y ≡ arpc_for r csu
  unfolding arpc_for
  arpc_made csu y x g l e o =
      same_ok
      (sym o ∙ e ∙ ap (λ (z : List ℕ). arpc_answer z r.transaction.cryptogram csu) ek
      ∙ sym (cryptograms.arpc_made (session_key_of r) r.transaction.cryptogram csu (length-session r) g l))

  pub counters_made : (a : Result (List ℕ) Refusal) (h m b x : List ℕ) → a ≡ counter_key k → a ≡ Ok h → m ≡ subkeys 8 h → b ≡ counter_block r.counters → x ≡ through (forth m) b
      → x ≡ counters_for r
  unfolding counters_for counter_key_of encipher
  counters_made a h m b x ea o em eb ex =
      let eh : h ≡ hash256 (session_key_of r) = same_ok (sym o ∙ ea ∙ ap counter_key ek ∙ sym (counter_yes (session_key_of r) (length-session r))) in
      ex ∙ ap₂ (λ (y z : List ℕ). through (forth y) z) (em ∙ ap (subkeys 8) eh) eb

-- an opened transaction
pub opened_by : (r : Card) (d k g : List ℕ) (kind : Kind) (x : Result (List ℕ) Refusal) (t : Transaction) (n : ℕ) → length d ≡ 65 → k ≡ session_key_of (grown r) → kind ≡ kind_for r.mark
    → x ≡ cryptogram_answer k kind (r.atc + 1) d → x ≡ Ok g → t ≡ just_opened r.mark g → n ≡ kind_number kind
    → record { card = with_transaction (grown r) t; code = 0; kind = n; bytes = g } ≡ reply (accepted r (Open d)) (gives r (Open d))
unfolding cryptogram_for
opened_by r d k g kind x t n l ek ej ex o et en =
    let w : g ≡ cryptogram_for (grown r) d =
    same_ok
    (sym o ∙ ex ∙ ap₂ (λ (y : List ℕ) (z : Kind). cryptogram_answer y z (r.atc + 1) d) ek ej ∙ sym (cryptograms.made (session_key_of (grown r)) (kind_for r.mark) (r.atc + 1) d (length-session (grown r)) l))
    in
    ap₂ (λ (y : Transaction) (z : ℕ). record { card = with_transaction (grown r) y; code = 0; kind = z; bytes = g }) et (en ∙ ap kind_number ej)
    ∙ ap (λ (y : List ℕ). record { card = with_transaction (grown r) (just_opened r.mark y); code = 0; kind = kind_number (kind_for r.mark); bytes = y }) w

-- the refusals of an unsound record, and of a sound one
module _ (r : Card) (a : Reply) (s : Bool) (e : s ≡ sound r) where
  pub unsound : (c : Call) → not s ≡ true → a ≡ plain r 1 → a ≡ step r c
  unfolding due_under after_under
  unsound c h z = z ∙ rw (sym e ∙ not-true s h)

  module _ (h : not s ≡ false) where
    fine : sound r ≡ true
    fine = sym e ∙ not-false s h

    pub withdraw_done : (d : Card) → d ≡ with_transaction r none → a ≡ plain d 0 → a ≡ step r Withdraw
    unfolding judged_under due_under after_under
    withdraw_done d n z = z ∙ rw (fine, n)

    module _ (o : Bool) (eo : o ≡ is_open r.transaction.phase) where
      pub open_busy : (d : List ℕ) → o ≡ true → a ≡ plain r 6 → a ≡ step r (Open d)
      unfolding judged_under due_under after_under
      open_busy d b z = z ∙ rw (fine, sym eo ∙ b)

      module _ (d : List ℕ) (b : o ≡ false) where
        pub open_input : (length d ≡ 65 → ⊥) → a ≡ plain r 1 → a ≡ step r (Open d)
        unfolding judged_under due_under after_under
        open_input l z = z ∙ rw (fine, sym eo ∙ b, ne_eqb _ _ l)

        module _ (l : length d ≡ 65) where
          pub open_atc : r.atc ≡ 65535 → a ≡ plain r 7 → a ≡ step r (Open d)
          unfolding judged_under due_under after_under
          open_atc x z = z ∙ rw (fine, sym eo ∙ b, eq-eqb _ _ l, eq-eqb _ _ x)

          module _ (x : r.atc ≡ 65535 → ⊥) where
            pub open_session : r.counters.session ≡ 65535 → a ≡ plain r 7 → a ≡ step r (Open d)
            unfolding judged_under due_under after_under
            open_session y z = z ∙ rw (fine, sym eo ∙ b, eq-eqb _ _ l, ne_eqb _ _ x, eq-eqb _ _ y)

            pub open_done : (r.counters.session ≡ 65535 → ⊥) → a ≡ reply (accepted r (Open d)) (gives r (Open d)) → a ≡ step r (Open d)
            unfolding judged_under due_under after_under
            open_done y z = z ∙ rw (fine, sym eo ∙ b, eq-eqb _ _ l, ne_eqb _ _ x, ne_eqb _ _ y)

      module _ (b : not o ≡ true) (z : a ≡ plain r 6) where
        shut : is_open r.transaction.phase ≡ false
        shut = sym eo ∙ not-true o b

        pub script_idle : (x m : List ℕ) → a ≡ step r (Script x m)
        unfolding judged_under judged_script due_under after_under
        script_idle x m = let v : judged r (Script x m) ≡ refuse PhaseWrong = rw shut in z ∙ rw (fine, v, shut)

        pub close_idle : a ≡ step r Close
        unfolding judged_under due_under after_under
        close_idle = z ∙ rw (fine, shut)

        pub counters_idle : a ≡ step r Counters
        unfolding judged_under due_under after_under
        counters_idle = z ∙ rw (fine, shut)

        pub check_idle : (d : List ℕ) → a ≡ step r (CheckPin d)
        unfolding judged_under due_under after_under
        check_idle d = z ∙ rw (fine, shut)

      module _ (b : not o ≡ false) where
        ajar : is_open r.transaction.phase ≡ true
        ajar = sym eo ∙ not-false o b

        by_verdict : (x m : List ℕ) (v : Verdict) → judged r (Script x m) ≡ v → script_as r (read r x m) v ≡ step r (Script x m)
        unfolding due_under after_under
        by_verdict x m (refuse q) w = rw (fine, w, ajar)
        by_verdict x m accept w = rw (fine, w)

        by_check : (d : List ℕ) (v : Verdict) → judged r (CheckPin d) ≡ v → check_as r v ≡ step r (CheckPin d)
        unfolding due_under after_under
        by_check d (refuse q) w = rw (fine, w)
        by_check d accept w = rw (fine, w)

        pub script_on : (x m : List ℕ) → a ≡ judged_as r x (read r x m) → a ≡ step r (Script x m)
        unfolding judged_under judged_script
        script_on x m z = z ∙ by_verdict x m (first_struck (drop 1 (script_checks r x (read r x m)))) (rw ajar)

        pub check_input : (d : List ℕ) → (length d ≡ 8 → ⊥) → a ≡ plain r 1 → a ≡ step r (CheckPin d)
        unfolding judged_under due_under after_under
        check_input d l z = z ∙ rw (fine, ajar, ne_eqb _ _ l)

        module _ (d : List ℕ) (l : length d ≡ 8) where
          pub check_none : r.tries ≡ 0 → a ≡ plain r 15 → a ≡ step r (CheckPin d)
          unfolding judged_under due_under after_under
          check_none n z = z ∙ rw (fine, ajar, eq-eqb _ _ l, eq-eqb _ _ n)

          module _ (n : r.tries ≡ 0 → ⊥) where
            pub check_full : r.counters.decipherments ≡ 65535 → a ≡ plain r 7 → a ≡ step r (CheckPin d)
            unfolding judged_under due_under after_under
            check_full f z = z ∙ rw (fine, ajar, eq-eqb _ _ l, ne_eqb _ _ n, eq-eqb _ _ f)

            pub check_on : (r.counters.decipherments ≡ 65535 → ⊥) → a ≡ compared_as r (decipher_pin (smc_key r) d) → a ≡ step r (CheckPin d)
            unfolding judged_under due_under after_under
            check_on f z = z ∙ by_check d (first_struck (drop 4 (pin_checks r [] (decipher_pin (smc_key r) d)))) (rw (ajar, eq-eqb _ _ l, ne_eqb _ _ n, ne_eqb _ _ f))

        pub close_spoilt : (d : Card) → r.transaction.spoilt ≡ true → d ≡ with_transaction r none → a ≡ plain d 10 → a ≡ step r Close
        unfolding judged_under due_under after_under
        close_spoilt d p n z = z ∙ rw (fine, ajar, p, n)

        pub close_done : (l d : Card) → r.transaction.spoilt ≡ false → l ≡ settled_record r r.transaction → d ≡ with_transaction l none
            → a ≡ plain d 0 → a ≡ step r Close
        unfolding judged_under due_under after_under
        close_done l d p e n z = z ∙ ap (λ (x : Card). plain x 0) (n ∙ ap (λ (x : Card). with_transaction x none) e) ∙ rw (fine, ajar, p)

    module _ (x u : List ℕ) (o : Bool) (eo : o ≡ is_arqc r.transaction.phase) where
      pub answer_phase : not o ≡ true → a ≡ plain r 6 → a ≡ step r (IssuerAnswer x u)
      unfolding judged_under due_under after_under
      answer_phase b z = z ∙ rw (fine, sym eo ∙ not-true o b)

      module _ (b : not o ≡ false) where
        pub answer_arpc : (length x ≡ 8 → ⊥) → a ≡ plain r 1 → a ≡ step r (IssuerAnswer x u)
        unfolding judged_under due_under after_under
        answer_arpc l z = z ∙ rw (fine, sym eo ∙ not-false o b, ne_eqb _ _ l)

        module _ (l : length x ≡ 8) where
          pub answer_csu : (length u ≡ 4 → ⊥) → a ≡ plain r 1 → a ≡ step r (IssuerAnswer x u)
          unfolding judged_under due_under after_under
          answer_csu n z = z ∙ rw (fine, sym eo ∙ not-false o b, eq-eqb _ _ l, ne_eqb _ _ n)

          module _ (n : length u ≡ 4) (y : List ℕ) (ey : y ≡ arpc_for r u) (v : Bool) (ev : v ≡ same x y) where
            compared : v ≡ same x (arpc_for r u)
            compared = ev ∙ ap (same x) ey

            pub answer_differs : not v ≡ true → a ≡ plain r 11 → a ≡ step r (IssuerAnswer x u)
            unfolding judged_under due_under after_under
            answer_differs w z = z ∙ rw (fine, sym eo ∙ not-false o b, eq-eqb _ _ l, eq-eqb _ _ n, sym compared ∙ not-true v w)

            pub answer_done : not v ≡ false → a ≡ plain (with_counters r r.atc (with_session r.counters 0)) 0 → a ≡ step r (IssuerAnswer x u)
            unfolding judged_under due_under after_under
            answer_done w z = z ∙ rw (fine, sym eo ∙ not-false o b, eq-eqb _ _ l, eq-eqb _ _ n, sym compared ∙ not-false v w)

pub counters_done : (r : Card) (s o : Bool) (g : List ℕ) → s ≡ sound r → not s ≡ false → o ≡ is_open r.transaction.phase → not o ≡ false → g ≡ counters_for r
    → record { card = r; code = 0; kind = 0; bytes = g } ≡ step r Counters
unfolding judged_under due_under after_under
counters_done r s o g e h eo b z = rw (sym e ∙ not-false s h, sym eo ∙ not-false o b, z)

-- a PIN check: 9, 14, or accepted
module _ (r : Card) (d k : List ℕ) (x : Result Pin Refusal) (a : Reply) (ek : k ≡ smc_key r) (ex : x ≡ decipher_pin k d) where
  abbrev Compared : Result Pin Refusal → Type 0
  Compared y = a ≡ compared_as r y

  as_read : (y : Result Pin Refusal) → x ≡ y → Compared y → Compared (decipher_pin (smc_key r) d)
  as_read y e z = subst Compared (sym e ∙ ex ∙ ap (λ (v : List ℕ). decipher_pin v d) ek) z

  pub misread : (q : Refusal) → x ≡ Err q → a ≡ plain (with_counters r r.atc (one_misread r.counters)) 9 → Compared (decipher_pin (smc_key r) d)
  misread q n z = as_read (Err q) n z

  module _ (p : Pin) (n : x ≡ Ok p) (v : Bool) (ev : v ≡ is_kept r (Ok p)) where
    pub mistaken : not v ≡ true → a ≡ plain (with_tries r (r.tries - 1)) 14 → Compared (decipher_pin (smc_key r) d)
    mistaken w z = as_read (Ok p) n (z ∙ rw (sym ev ∙ not-true v w))

    pub recognised : not v ≡ false → a ≡ plain (with_tries r full_tries) 0 → Compared (decipher_pin (smc_key r) d)
    recognised w z = as_read (Ok p) n (z ∙ rw (sym ev ∙ not-false v w))

-- a script: what an accepted command makes pending, or 9
pub mark_taken : (r : Card) (b : Bool) (m : PendingMark) (a : Reply) → m ≡ mark_for b
    → a ≡ plain (with_transaction r (record { phase = r.transaction.phase; cryptogram = r.transaction.cryptogram; pin = r.transaction.pin; count = r.transaction.count; mark = m; spoilt = r.transaction.spoilt })) 0
    → a ≡ plain (with_transaction r (pend (new_mark b) r.transaction)) 0
mark_taken r b m a e z = z ∙ rw e

module _ (r : Card) (d k : List ℕ) (x : Result Pin Refusal) (a : Reply) (ek : k ≡ smc_key r) (ex : x ≡ decipher_pin k d) where
  abbrev Taken : Result Pin Refusal → Type 0
  Taken y = a ≡ taken_as r (Ok SetPin) y

  its : (y : Result Pin Refusal) → x ≡ y → Taken y → Taken (decipher_pin (smc_key r) d)
  its y e z = subst Taken (sym e ∙ ex ∙ ap (λ (v : List ℕ). decipher_pin v d) ek) z

  pub pin_no : (q : Refusal) → x ≡ Err q → a ≡ plain (with_transaction r (spoilt r.transaction)) 9 → Taken (decipher_pin (smc_key r) d)
  pin_no q n z = its (Err q) n z

  pub pin_yes : (p : Pin) → x ≡ Ok p → a ≡ plain (with_transaction r (pend (new_pin p.digits p.count) r.transaction)) 0 → Taken (decipher_pin (smc_key r) d)
  pin_yes p n z = its (Ok p) n z

module _ (r : Card) (c : Command) (x : Result Pin Refusal) (a : Reply) where
  abbrev Took : Command → Type 0
  Took k = a ≡ taken_as r (Ok k) x

  pub taken_pin : c ≡ SetPin → Took SetPin → Took c
  taken_pin e z = subst Took (sym e) z

  pub taken_set : c ≡ SetMark → a ≡ plain (with_transaction r (pend (new_mark true) r.transaction)) 0 → Took c
  taken_set e z = subst Took (sym e) z

  pub taken_clear : c ≡ ClearMark → a ≡ plain (with_transaction r (pend (new_mark false) r.transaction)) 0 → Took c
  taken_clear e z = subst Took (sym e) z

-- the checks of a listed command
module _ (r : Card) (c : Command) (h m : List ℕ) (a : Reply) where
  abbrev Obeyed : Type 0
  Obeyed = a ≡ obeyed_as r (Ok c) (code_fits (smi_key r) h m) (decipher_pin (smc_key r) (data_of m))

  pub obey_full : r.counters.failures ≡ 65535 → a ≡ plain (with_transaction r (spoilt r.transaction)) 7 → Obeyed
  obey_full f z = z ∙ rw (eq-eqb _ _ f)

  module _ (f : r.counters.failures ≡ 65535 → ⊥) (k : List ℕ) (ek : k ≡ smi_key r) (v : Bool) (ev : v ≡ code_fits k h m) where
    fits : v ≡ code_fits (smi_key r) h m
    fits = ev ∙ ap (λ (x : List ℕ). code_fits x h m) ek

    pub obey_code : not v ≡ true → a ≡ plain (with_transaction (with_counters r r.atc (one_failed r.counters)) (spoilt r.transaction)) 8 → Obeyed
    obey_code w z = z ∙ rw (ne_eqb _ _ f, sym fits ∙ not-true v w)

    -- the key uncounted: the record as before
    uncounted : (n : ℕ) → n + 1 - 1 ≡ n
    uncounted n = omega arith

    pub obey_taken : not v ≡ false → (d : List ℕ) → d ≡ data_of m → (s : Card)
        → s ≡ with_counters r r.atc (record { session = r.counters.session; failures = r.counters.failures + 1 - 1; decipherments = r.counters.decipherments; authentications = r.counters.authentications })
        → a ≡ taken_as s (Ok c) (decipher_pin (smc_key s) d) → Obeyed
    obey_taken w d ed s es z =
        let e : s ≡ r = es ∙ rw (uncounted r.counters.failures) in
        z ∙ ap₂ (λ (x : Card) (y : List ℕ). taken_as x (Ok c) (decipher_pin (smc_key x) y)) e ed
        ∙ rw (ne_eqb _ _ f, sym fits ∙ not-false v w)

-- the checks in an open transaction
module _ (r : Card) (h m : List ℕ) (a : Reply) where
  abbrev Judged : Type 0
  Judged = a ≡ judged_as r h (read r h m)

  pub judge_header : (length h ≡ 4 → ⊥) → a ≡ plain (with_transaction r (spoilt r.transaction)) 1 → Judged
  judge_header l z = z ∙ rw (ne_eqb _ _ l)

  module _ (l : length h ≡ 4) (o : Result Found Refusal) (eo : Tells o (shaped m) (cond (shape m) 0 4) m) where
    pub judge_shape : (q : Refusal) → o ≡ Err q → a ≡ plain (with_transaction r (spoilt r.transaction)) 4 → Judged
    judge_shape q f z = z ∙ rw (eq-eqb _ _ l, told_refused m o q eo f)

    module _ (d : Found) (f : o ≡ Ok d) (q : Result Command Refusal) (eq : Lists q h d.tag d.length) where
      told : Told m d.tag d.place d.length
      told = told_data m o d eo f

      its_command : q ≡ command_of h (tag_of m) (length_of m)
      its_command = eq.is ∙ ap₂ (λ (x y : ℕ). command_of h x y) told.the_tag told.the_length

      pub judge_unlisted : (w : Refusal) → q ≡ Err w → a ≡ plain (with_transaction r (spoilt r.transaction)) (number w) → Judged
      judge_unlisted w g z =
          let e : w ≡ NotListed = why_unlisted_lem h (tag_of m) (length_of m) w (sym its_command ∙ g) in
          let f : q ≡ Err NotListed = g ∙ ap Err e in
          z ∙ ap (λ (x : Refusal). plain (with_transaction r (spoilt r.transaction)) (number x)) e ∙ rw (eq-eqb _ _ l, told.good, sym its_command ∙ f)

      pub judge_listed : (c : Command) → q ≡ Ok c → Obeyed r c h m a → Judged
      judge_listed c g z = z ∙ rw (eq-eqb _ _ l, told.good, sym its_command ∙ g)

-- the data of a message of good shape
pub judge_end : (m : List ℕ) (o : Result Found Refusal) (d : Found) → Tells o (shaped m) (cond (shape m) 0 4) m → o ≡ Ok d → d.place + d.length ≤ length m
judge_end m o d e f = let w = told_data m o d e f in let s = w.the_size in omega arith

pub judge_data : (m : List ℕ) (o : Result Found Refusal) (d : Found) → Tells o (shaped m) (cond (shape m) 0 4) m → o ≡ Ok d
    → take ((d.place + d.length) - d.place) (drop d.place m) ≡ data_of m
unfolding data_of_under
judge_data m o d e f =
    let w = told_data m o d e f in
    ap₂ {C = List ℕ} (λ x y. take x (drop y m)) (add-sub_cancel_left d.place d.length ∙ w.the_length) w.the_place

-- personalisation
pub blank_by : (t : Transaction) → t ≡ none → with_transaction blank t ≡ blank
blank_by t e = ap (with_transaction blank) e

module _ (ac smi smc : List ℕ) (atc : ℕ) (counters : List ℕ) (mark : ℕ) (block : List ℕ) (tries : ℕ) (a : Reply) where
  abbrev with : Pin → CounterStruct → Transaction → Card
  with y n t = record { ac = ac; smi = smi; smc = smc; pin = y.digits; count = y.count; mark = eqb mark 1; tries = tries; atc = atc; counters = n; transaction = t }

  pub fresh_mark : (b : Card) → 1 < mark → b ≡ blank → a ≡ plain b 1 → a ≡ personalised ac smi smc atc counters mark block tries
  unfolding personalised
  fresh_mark b h e z = z ∙ ap (λ (x : Card). plain x 1) e ∙ rw (lt-leb mark 1 h)

  pub fresh_tries : (b : Card) → mark ≤ 1 → full_tries < tries → b ≡ blank → a ≡ plain b 1 → a ≡ personalised ac smi smc atc counters mark block tries
  unfolding personalised
  fresh_tries b h n e z = z ∙ ap (λ (x : Card). plain x 1) e ∙ rw (le-leb mark 1 h, lt-leb tries full_tries n)

  module _ (h : mark ≤ 1) (k : tries ≤ full_tries) (x : Result Pin Refusal) (ex : x ≡ read_block block) where
    pub fresh_format : (b : Card) (q : Refusal) → x ≡ Err q → b ≡ blank → a ≡ plain b 9 → a ≡ personalised ac smi smc atc counters mark block tries
    unfolding personalised
    fresh_format b q n e z = z ∙ ap (λ (y : Card). plain y 9) e ∙ rw (le-leb mark 1 h, le-leb tries full_tries k, sym ex ∙ n)

    pub fresh_done : (p : Pin) (n : CounterStruct) (t : Transaction) → x ≡ Ok p → n ≡ counters_of counters → t ≡ none
        → a ≡ plain (with p n t) 0 → a ≡ personalised ac smi smc atc counters mark block tries
    unfolding personalised
    fresh_done p n t o en et z =
        z
        ∙ ap₂ (λ (u : CounterStruct) (v : Transaction). plain (with p u v) 0) en et
        ∙ rw (le-leb mark 1 h, le-leb tries full_tries k, sym ex ∙ o)
