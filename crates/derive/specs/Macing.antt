-- HMAC under way, fed in parts of any length (Wish 5). The total is that of the message alone: a key's block is not counted. Assumes nothing.
use Rattle.std.specs.Prelude.{cond, List, ℕ, length, Result, Ok, Err}
use Rattle.octets.specs.Lengths.{key_fits}
use Rattle.blocks.specs.Parts.{Way, fits, counted}
use Rattle.hash.specs.declared.Core.{Core}
use Rattle.hash.specs.Hash.{block_step}
use Rattle.hash.specs.States.{state_of, held, poured_into, ended}
use Rattle.answers.specs.declared.Refusal.{Refusal}
use Rattle.answers.specs.declared.Refusal.TheVariants.{Input}
use Rattle.derive.specs.declared.Started.{Started}
use Rattle.derive.specs.Started.{started}

abbrev pub mac_way : Way Started Core
mac_way =
    record {
      size = 64;
      step = λ s. block_step;
      made = λ s. s.inner.core;
      held = λ s. held s.inner;
      total = λ s. s.inner.total;
      anew = λ s c t n. record { inner = state_of c t n; outer = s.outer };
    }

-- a key of 32 bytes; another is 1
unfoldable pub mac_begun : List ℕ → Result Started Refusal
mac_begun key = cond (key_fits key) (Ok (started key)) (Err Input)

-- one part more
unfoldable pub mac_fed : Started → List ℕ → Result Started Refusal
mac_fed s m = cond (fits s.inner.total (length m)) (Ok (counted mac_way s m)) (Err Input)

unfoldable pub mac_ended : Started → List ℕ
mac_ended s = ended (poured_into s.outer (ended s.inner))
