-- Checking an ARQC (Wish 7: "checking 2, 19, 22, 23"; "a wrong length .. is 1 ahead of all"; "a refusal changes no entry"). Assumes nothing.
use Rattle.std.specs.Prelude.{ℕ, Bool, true, ◌&&◌, cond, List, [], ◌∷◌, eqb, ltb, length, get_or, replicate, Option, None, Some, Result, Ok, Err}
use Rattle.std.specs.Result.{result_unwrap_or}
use Rattle.answers.specs.declared.Refusal.{Refusal}
use Rattle.answers.specs.declared.Refusal.TheVariants.{Input, CardNumber, UnknownCard, ArqcDiffers, CounterNotAbove}
use Rattle.octets.specs.Numbers.{be}
use Rattle.octets.specs.Same.{same}
use Rattle.gost.specs.Gost.{subkeys}
use Rattle.derive.specs.Derivation.{derived, card_label}
use Rattle.keys.specs.CardNumber.{card_fits}
use Rattle.keys.specs.Seeds.{session_seed}
use Rattle.cryptogram.specs.declared.Kind.TheVariants.{Arqc}
use Rattle.cryptogram.specs.Cryptogram.{cryptogram_of, arpc_of}
use Rattle.table.specs.declared.CardId.{CardId}
use Rattle.table.specs.declared.Entry.{Entry}
use Rattle.table.specs.Table.{held}
use Rattle.table.specs.Calls.{keeping, reading}
use Rattle.table.specs.Acts.{last_of}
use Rattle.desk.specs.declared.Desk.{Desk}
use Rattle.desk.specs.declared.Checked.{Checked}
use Rattle.desk.specs.Desk.{id_of, master_key, with_places}

-- the counter in the 65 bytes: offsets 31 and 32, high byte first
unfoldable pub counter_in : List ℕ → ℕ
counter_in m = be (get_or m 31 0 ∷ get_or m 32 0 ∷ [])

-- the session key for cryptograms of a card at a counter
unfoldable pub session_of : Desk → List ℕ → ℕ → ℕ → List ℕ
session_of d pan sequence counter = derived (master_key d.packed d.ac pan sequence) card_label (session_seed counter)

-- "requires that counter above the last one, if any"
abbrev pub above : Option ℕ → ℕ → Bool
above None counter = true
above (Some last) counter = ltb last counter

unfoldable pub above_last : List Entry → CardId → ℕ → Bool
above_last t c counter = above (last_of (reading c t)) counter

-- the ARPC, and the desk with what its table becomes
abbrev pub given_by : Desk → List ℕ → Result (List Entry) Refusal → Result Checked Refusal
given_by d arpc (Ok t) = Ok (record { desk = with_places d t; arpc = arpc })
given_by d arpc (Err q) = Err q

-- "keeps it, gives ARPC for a CSU"; else 23
unfoldable pub checks_right : Desk → CardId → List ℕ → ℕ → List ℕ → List ℕ → Result Checked Refusal
checks_right d c key counter arqc csu =
    cond (above_last d.places c counter) (given_by d (arpc_of (subkeys 8 key) arqc csu) (keeping c counter d.places)) (Err CounterNotAbove)

-- "an ARQC (01's for the 65 bytes sent and the counter in them)"; else 22
unfoldable pub checks_known : Desk → CardId → List ℕ → ℕ → List ℕ → List ℕ → List ℕ → Result Checked Refusal
checks_known d c key counter m arqc csu =
    cond (same (cryptogram_of (subkeys 8 key) Arqc counter m) arqc) (checks_right d c key counter arqc csu) (Err ArqcDiffers)

-- 1, 2, 19, then the rest
unfoldable pub checks : Desk → List ℕ → ℕ → List ℕ → List ℕ → List ℕ → Result Checked Refusal
checks d pan sequence m arqc csu =
    cond (eqb (length m) 65 && (eqb (length arqc) 8 && eqb (length csu) 4))
    (cond (card_fits pan sequence)
    (cond (held (id_of pan sequence) d.places)
    (checks_known d (id_of pan sequence) (session_of d pan sequence (counter_in m)) (counter_in m) m arqc csu)
    (Err UnknownCard))
    (Err CardNumber))
    (Err Input)

-- the desk after a checking, and the ARPC: a refusal hands back none, the caller's desk is the one after it, and eight zeros stand for the ARPC
abbrev pub after_check : Result Checked Refusal → Desk → Checked
after_check r d = result_unwrap_or r (record { desk = d; arpc = replicate 8 0 })
