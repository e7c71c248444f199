-- Helpers of private contracts only: the words of the record's master keys that are kept from line to line. Assumes nothing.
use Rattle.std.specs.Prelude.{ℕ, ◌≤◌, ◌≡◌, cond, List, eqb, length, take}
use Rattle.card.specs.Record.{Masters, masters}
use Rattle.card.specs.Words.{Fits}
use Rattle.lines.specs.Lines.{octet_of}
use Rattle.trace.specs.declared.Words.{Words}
use Rattle.trace.specs.declared.Fed.{Fed}
use Rattle.trace.specs.declared.Turned.{Turned}

-- the first n words are those of a key, or none
pub record Holds (ws : List ℕ) (n : ℕ) (key : List ℕ) : Type 0 where
  pub size : length ws ≡ 256
  pub most : n ≤ 256
  pub fits : Fits (take n ws) key

pub record Ready (ac smi smc : List ℕ) (n : Words) (m : Masters) : Type 0 where
  pub of_ac : Holds ac n.ac m.ac
  pub of_smi : Holds smi n.smi m.smi
  pub of_smc : Holds smc n.smc m.smc

abbrev pub no_words : Words
no_words = record { ac = 0; smi = 0; smc = 0 }

-- after a line that begins with two digits 0 the keys may be others
abbrev pub left_of : Words → ℕ → ℕ → Words
left_of n high low = cond (eqb (octet_of high low) 0) no_words n

-- a line fed, and the words of the keys of the record after it
pub record Turns (f : Fed) (ac smi smc : List ℕ) (r : Turned) : Type 0 where
  pub feeds : r.fed ≡ f
  pub long : length r.fed.answer ≡ 21
  pub ready : Ready ac smi smc r.have (masters f.trace.held.card)
