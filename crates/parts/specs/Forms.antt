-- The states of Wish 5 as bytes that a caller lends. Any bytes of a state's length are a state: every word, octet and total is one. Assumes nothing.
use Rattle.std.specs.Prelude.{List, [], ◌∷◌, ◌++◌, ℕ, ◌%◌, take, drop, get_or}
use Rattle.octets.specs.Numbers.{le, le_octets}
use Rattle.lps.specs.Vectors.{words, bytes}
use Rattle.gost.specs.Gost.{subkeys, halves, block}
use Rattle.hash.specs.declared.State.{State}
use Rattle.derive.specs.declared.Started.{Started}
use Rattle.cipher.specs.declared.Coding.{Coding}

-- how many bytes, the state that they are, and the bytes of a state
pub record Form (S : Type 0) : Type 0 where
  pub size : ℕ
  pub into : List ℕ → S
  pub out : S → List ℕ

-- a hash: h, N and Sigma of 64 bytes each, the buffer of 64, its fill, the total of 4, lowest byte first
unfoldable pub hash_in : List ℕ → State
hash_in b =
    record {
      core = record { h = words (take 64 b); n = words (take 64 (drop 64 b)); sigma = words (take 64 (drop 128 b)) };
      buffer = take 64 (drop 192 b);
      fill = get_or b 256 0;
      total = le (take 4 (drop 257 b));
    }

unfoldable pub hash_out : State → List ℕ
hash_out s =
    bytes s.core.h ++ (bytes s.core.n ++ (bytes s.core.sigma ++ (s.buffer ++ (s.fill % 256 ∷ le_octets 4 s.total))))

abbrev pub hash_form : Form State
hash_form = record { size = 261; into = hash_in; out = hash_out }

-- HMAC: its inner hash, and its outer
unfoldable pub mac_in : List ℕ → Started
mac_in b = record { inner = hash_in (take 261 b); outer = hash_in (drop 261 b) }

unfoldable pub mac_out : Started → List ℕ
mac_out s = hash_out s.inner ++ hash_out s.outer

abbrev pub mac_form : Form Started
mac_form = record { size = 522; into = mac_in; out = mac_out }

-- words of four octets each
unfoldable pub octets_of : List ℕ → List ℕ
octets_of [] = []
octets_of (k ∷ ks) = le_octets 4 k ++ octets_of ks

-- a code: the eight subkeys, which are the key, N1 and N2, the buffer of 8, its fill, the total of 4
unfoldable pub code_in : List ℕ → Coding
code_in b =
    record {
      subkeys = subkeys 8 (take 32 b);
      halves = halves (drop 32 b);
      buffer = take 8 (drop 40 b);
      fill = get_or b 48 0;
      total = le (take 4 (drop 49 b));
    }

unfoldable pub code_out : Coding → List ℕ
code_out s = octets_of s.subkeys ++ (block s.halves ++ (s.buffer ++ (s.fill % 256 ∷ le_octets 4 s.total)))

abbrev pub code_form : Form Coding
code_form = record { size = 53; into = code_in; out = code_out }
