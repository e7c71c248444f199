-- The data D of a cryptogram (001, table 1), and what the card writes into it (01, Cryptograms). Assumes nothing.
use Rattle.std.specs.Prelude.{ℕ, ◌+◌, ◌*◌, ◌%◌, List, [], ◌∷◌, get_or, set, take}
use Rattle.std.proofs.lemmas.List.Edits.{sets}
use Rattle.octets.specs.Numbers.{be_octets}
use Rattle.cryptogram.specs.declared.Kind.{Kind}
use Rattle.cryptogram.specs.declared.Kind.TheVariants.{Arqc, Tc, Aac}

-- table 1: the fields and their widths in bytes
pub data Field : Type 0 where
  amount_authorised : Field
  amount_other : Field
  terminal_country_code : Field
  terminal_verification_results : Field
  transaction_currency_code : Field
  transaction_date : Field
  transaction_type : Field
  unpredictable_number : Field
  application_interchange_profile : Field
  application_transaction_counter : Field
  issuer_application_data : Field

unfoldable pub width : Field → ℕ
width amount_authorised = 6
width amount_other = 6
width terminal_country_code = 2
width terminal_verification_results = 5
width transaction_currency_code = 2
width transaction_date = 3
width transaction_type = 1
width unpredictable_number = 4
width application_interchange_profile = 2
width application_transaction_counter = 2
width issuer_application_data = 32

unfoldable pub widths : List Field → ℕ
widths [] = 0
widths (f ∷ fs) = width f + widths fs

-- the table's order, and a field's row in it
unfoldable pub fields : List Field
fields =
    amount_authorised ∷ amount_other ∷ terminal_country_code ∷ terminal_verification_results ∷ transaction_currency_code ∷ transaction_date
    ∷ transaction_type ∷ unpredictable_number ∷ application_interchange_profile ∷ application_transaction_counter ∷ issuer_application_data ∷ []

unfoldable pub row : Field → ℕ
row amount_authorised = 0
row amount_other = 1
row terminal_country_code = 2
row terminal_verification_results = 3
row transaction_currency_code = 4
row transaction_date = 5
row transaction_type = 6
row unpredictable_number = 7
row application_interchange_profile = 8
row application_transaction_counter = 9
row issuer_application_data = 10

-- a field's place in the data: after the fields of the rows above it
unfoldable pub place : Field → ℕ
place f = widths (take (row f) fields)

unfoldable pub counter_place : ℕ
counter_place = place application_transaction_counter

unfoldable pub issuer_place : ℕ
issuer_place = place issuer_application_data

unfoldable pub data_length : ℕ
data_length = widths fields

-- the kind stands in the fourth byte of the issuer's data
unfoldable pub kind_place : ℕ
kind_place = issuer_place + 3

-- table 2, bits 8 to 5, in answer to the first command: "1010 for ARQC, 1001 for TC, 1000 for AAC"
unfoldable pub kind_bits : Kind → ℕ
kind_bits Arqc = 0b1010
kind_bits Tc = 0b1001
kind_bits Aac = 0b1000

-- "it writes the upper four bits and keeps the lower four"
unfoldable pub marked : Kind → ℕ → ℕ
marked kind b = 16 * kind_bits kind + b % 16

-- the data with the card's own counter, high byte first, and the kind
unfoldable pub card_data : Kind → ℕ → List ℕ → List ℕ
card_data kind atc d = set (sets d counter_place (be_octets 2 atc)) kind_place (marked kind (get_or d kind_place 0))
