-- The counter block (01, Script messages; 002, clause 3 and 4.3.1): four counters of 2 bytes, high byte first. Assumes nothing.
use Rattle.std.specs.Prelude.{ℕ, List, ◌++◌, take, drop}
use Rattle.octets.specs.Numbers.{be, be_octets}
use Rattle.pin.specs.declared.Counters.{Counters}

-- "in the order session, script failure, PIN decipherment, mutual authentication"
unfoldable pub counter_block : Counters → List ℕ
counter_block c = be_octets 2 c.session ++ be_octets 2 c.failures ++ be_octets 2 c.decipherments ++ be_octets 2 c.authentications

unfoldable pub counters_of : List ℕ → Counters
counters_of b =
    record {
      session = be (take 2 b);
      failures = be (take 2 (drop 2 b));
      decipherments = be (take 2 (drop 4 b));
      authentications = be (take 2 (drop 6 b));
    }
