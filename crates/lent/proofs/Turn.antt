-- What a call of the desk does to its places, whatever keys it does not look at: they stay 64, each with the sizes of its bytes.
-- Assumes nothing.
use Prim.Native.Nat.{ℕ, zero, suc, ◌+◌, ◌-◌, ◌<◌}
use native.Mathlib.Omega.{arith}
use mathlib.Core.Path.{◌≡◌, refl, sym, ap, subst⁻¹, ◌∙◌}
use mathlib.Core.Bool.{Bool, true, false, ◌&&◌, cond}
use mathlib.Core.List.{List, [], ◌∷◌}
use lib.Dec.{eqb}
use lib.ListN.{length, get_or, length-append, length-replicate}
use Rattle.std.specs.Prelude.{Result, Ok, Err}
use Rattle.answers.specs.declared.Refusal.{Refusal}
use Rattle.answers.specs.declared.Refusal.TheVariants.{Input, CardNumber, UnknownCard, AlreadyHeld, TableFull, ArqcDiffers, CounterNotAbove}
use Rattle.octets.specs.Same.{same}
use Rattle.octets.specs.Numbers.{Octets}
use Rattle.octets.proofs.NumberLaws.{be_lt}
use Rattle.gost.specs.Gost.{subkeys}
use Rattle.derive.specs.Derivation.{derived, card_label}
use Rattle.keys.specs.CardNumber.{card_fits}
use Rattle.keys.specs.Seeds.{session_seed}
use Rattle.keys.proofs.CardLaws.{fits}
use Rattle.cryptogram.specs.declared.Kind.TheVariants.{Arqc}
use Rattle.cryptogram.specs.Cryptogram.{cryptogram_of, arpc_of}
use Rattle.shapes.specs.declared.command.Command.{Command}
use Rattle.table.specs.declared.CardId.{CardId}
use Rattle.table.specs.declared.Entry.{Entry}
use Rattle.table.specs.Table.{names, held, room}
use Rattle.table.specs.Calls.{fresh, empty, placed, adding, each, cleared_entry, forgetting, kept_entry, keeping}
use Rattle.table.specs.Acts.{table_after}
use Rattle.table.proofs.Touch.{placed_length, each_length, adding_as, forgetting_as, keeping_as}
use Rattle.desk.specs.declared.Desk.{Desk}
use Rattle.desk.specs.declared.Checked.{Checked}
use Rattle.desk.specs.Desk.{id_of, master_key, with_places, told_by, adds, forgets, desk_after}
use Rattle.desk.specs.Check.{counter_in, session_of, above_last, given_by, checks_right, checks_known, checks, after_check}
use Rattle.desk.specs.Wrap.{ordered, wraps_order, wraps_listed, wraps}
use Rattle.lent.specs.Lent.{Sized}
use Rattle.lent.proofs.Written.{AllSized}

-- the places after a call
pub record Turn (u : List Entry) : Type 0 where
  pub size : length u ≡ 64
  pub sized : AllSized u

-- the sizes of what is put into a place
pub empty_sized : Sized empty
empty_sized = record { digits = length-replicate {A = ℕ} 19 0; last = omega arith }

card_sized : (pan : List ℕ) (q : ℕ) → card_fits pan q ≡ true → Sized (fresh (id_of pan q))
unfolding id_of
card_sized pan q h =
    let m = (fits pan q h).most in
    record { digits = length-append pan _ ∙ ap (λ (k : ℕ). length pan + k) (length-replicate {A = ℕ} (19 - length pan) 0) ∙ omega arith; last = omega arith }

placed_sized : (c : CardId) → Sized (fresh c) → (t : List Entry) → AllSized t → AllSized (placed c t)
unfolding placed
placed_sized c f [] z = z
placed_sized c f (e ∷ t) z = go e.held (placed_sized c f t (λ i. z (suc i)))
  where
    go : (b : Bool) → AllSized (placed c t) → AllSized (cond b (e ∷ placed c t) (fresh c ∷ t))
    go true y zero = z zero
    go true y (suc i) = y i
    go false y zero = f
    go false y (suc i) = z (suc i)

each_sized : (f : Entry → Entry) → ((e : Entry) → Sized e → Sized (f e)) → (t : List Entry) → AllSized t → AllSized (each f t)
unfolding each
each_sized f g [] z i = z i
each_sized f g (e ∷ t) z zero = g e (z zero)
each_sized f g (e ∷ t) z (suc i) = each_sized f g t (λ j. z (suc j)) i

cleared_sized : (c : CardId) (e : Entry) → Sized e → Sized (cleared_entry c e)
unfolding cleared_entry
cleared_sized c e z = go (names c e)
  where
    go : (b : Bool) → Sized (cond b empty e)
    go true = empty_sized
    go false = z

kept_sized : (c : CardId) (n : ℕ) → n < 65536 → (e : Entry) → Sized e → Sized (kept_entry c n e)
unfolding kept_entry
kept_sized c n h e z = go (names c e)
  where
    go : (b : Bool) → Sized (cond b (record { held = e.held; id = e.id; known = true; last = n }) e)
    go true = record { digits = z.digits; last = h }
    go false = z

pub two_octets : (a b : ℕ) → a < 256 → b < 256 → Octets (a ∷ b ∷ [])
two_octets a b h k zero = h
two_octets a b h k (suc zero) = k
two_octets a b h k (suc (suc i)) = omega arith

counter_small : (m : List ℕ) → Octets m → counter_in m < 65536
unfolding counter_in
counter_small m o = be_lt (get_or m 31 0 ∷ get_or m 32 0 ∷ []) (two_octets (get_or m 31 0) (get_or m 32 0) (o 31) (o 32))

-- the calls at the table
module _ (t : List Entry) (n : length t ≡ 64) (z : AllSized t) where
  stays : Turn t
  stays = record { size = n; sized = z }

  abbrev TurnBy : Result (List Entry) Refusal → Type 0
  TurnBy r = Turn (table_after r t)

  turn_adding : (c : CardId) → Sized (fresh c) → TurnBy (adding c t)
  turn_adding c f = subst⁻¹ TurnBy (adding_as c t (held c t) (room t) refl refl) (go (held c t) (room t))
    where
      go : (b r : Bool) → TurnBy (cond b (Err AlreadyHeld) (cond r (Ok (placed c t)) (Err TableFull)))
      go true r = stays
      go false true = record { size = placed_length c t ∙ n; sized = placed_sized c f t z }
      go false false = stays

  turn_forgetting : (c : CardId) → TurnBy (forgetting c t)
  turn_forgetting c = subst⁻¹ TurnBy (forgetting_as c t (held c t) refl) (go (held c t))
    where
      go : (b : Bool) → TurnBy (cond b (Ok (each (cleared_entry c) t)) (Err UnknownCard))
      go true = record { size = each_length (cleared_entry c) t ∙ n; sized = each_sized (cleared_entry c) (cleared_sized c) t z }
      go false = stays

  turn_keeping : (c : CardId) (k : ℕ) → k < 65536 → TurnBy (keeping c k t)
  turn_keeping c k h = subst⁻¹ TurnBy (keeping_as c t k (held c t) refl) (go (held c t))
    where
      go : (b : Bool) → TurnBy (cond b (Ok (each (kept_entry c k) t)) (Err UnknownCard))
      go true = record { size = each_length (kept_entry c k) t ∙ n; sized = each_sized (kept_entry c k) (kept_sized c k h) t z }
      go false = stays

-- the desk that a call hands back has the keys of the one that it was given
abbrev pub over_told : Desk → Result Desk Refusal → Result Desk Refusal
over_told d (Ok e) = Ok (with_places d e.places)
over_told d (Err q) = Err q

abbrev pub over_checked : Desk → Result Checked Refusal → Result Checked Refusal
over_checked d (Ok x) = Ok (record { desk = with_places d x.desk.places; arpc = x.arpc })
over_checked d (Err q) = Err q

abbrev keyed : List ℕ → List ℕ → List ℕ → Bool → List Entry → Desk
keyed ac smi smc packed t = record { ac = ac; smi = smi; smc = smc; packed = packed; places = t }

-- the places are the table's
told_turn : (d : Desk) (r : Result (List Entry) Refusal) → Turn (table_after r d.places) → Turn (desk_after (told_by d r) d).places
told_turn d (Ok u) w = w
told_turn d (Err q) w = w

given_turn : (d : Desk) (a : List ℕ) (r : Result (List Entry) Refusal) → Turn (table_after r d.places) → Turn (after_check (given_by d a r) d).desk.places
given_turn d a (Ok u) w = w
given_turn d a (Err q) w = w

told_over : (d e : Desk) (r : Result (List Entry) Refusal) → told_by d r ≡ over_told d (told_by e r)
told_over d e (Ok u) = refl
told_over d e (Err q) = refl

given_over : (d e : Desk) (a : List ℕ) (r : Result (List Entry) Refusal) → given_by d a r ≡ over_checked d (given_by e a r)
given_over d e a (Ok u) = refl
given_over d e a (Err q) = refl

module _ (t : List Entry) (pan : List ℕ) (q : ℕ) (ac smi smc : List ℕ) (p : Bool) where
  abbrev d : Desk
  d = keyed ac smi smc p t

  module _ (n : length t ≡ 64) (z : AllSized t) where
    pub turn_adds : Turn (desk_after (adds d pan q) d).places
    unfolding adds
    turn_adds = go (card_fits pan q) refl
      where
        go : (f : Bool) → card_fits pan q ≡ f → Turn (desk_after (cond f (told_by d (adding (id_of pan q) t)) (Err CardNumber)) d).places
        go true e = told_turn d (adding (id_of pan q) t) (turn_adding t n z (id_of pan q) (card_sized pan q e))
        go false e = stays t n z

    pub turn_forgets : Turn (desk_after (forgets d pan q) d).places
    unfolding forgets
    turn_forgets = go (card_fits pan q)
      where
        go : (f : Bool) → Turn (desk_after (cond f (told_by d (forgetting (id_of pan q) t)) (Err CardNumber)) d).places
        go true = told_turn d (forgetting (id_of pan q) t) (turn_forgetting t n z (id_of pan q))
        go false = stays t n z

  -- adding and forgetting look at no key
  module _ (ac' smi' smc' : List ℕ) (p' : Bool) where
    pub adds_over : adds d pan q ≡ over_told d (adds (keyed ac' smi' smc' p' t) pan q)
    unfolding adds
    adds_over = go (card_fits pan q)
      where
        go : (f : Bool) → cond f (told_by d (adding (id_of pan q) t)) (Err CardNumber)
            ≡ over_told d (cond f (told_by (keyed ac' smi' smc' p' t) (adding (id_of pan q) t)) (Err CardNumber))
        go true = told_over d (keyed ac' smi' smc' p' t) (adding (id_of pan q) t)
        go false = refl

    pub forgets_over : forgets d pan q ≡ over_told d (forgets (keyed ac' smi' smc' p' t) pan q)
    unfolding forgets
    forgets_over = go (card_fits pan q)
      where
        go : (f : Bool) → cond f (told_by d (forgetting (id_of pan q) t)) (Err CardNumber)
            ≡ over_told d (cond f (told_by (keyed ac' smi' smc' p' t) (forgetting (id_of pan q) t)) (Err CardNumber))
        go true = told_over d (keyed ac' smi' smc' p' t) (forgetting (id_of pan q) t)
        go false = refl

  -- checking looks at the key for cryptograms alone
  module _ (m arqc csu : List ℕ) where
    abbrev c : CardId
    c = id_of pan q

    abbrev ks : List ℕ
    ks = subkeys 8 (derived (master_key p ac pan q) card_label (session_seed (counter_in m)))

    abbrev by : Desk → Bool → Bool → Bool → Bool → Bool → Result Checked Refusal
    by e l f x s a =
        cond l
        (cond f
        (cond x (cond s (cond a (given_by e (arpc_of ks arqc csu) (keeping c (counter_in m) t)) (Err CounterNotAbove)) (Err ArqcDiffers)) (Err UnknownCard))
        (Err CardNumber))
        (Err Input)

    abbrev long : Bool
    long = eqb (length m) 65 && (eqb (length arqc) 8 && eqb (length csu) 4)

    abbrev right : Bool
    right = same (cryptogram_of ks Arqc (counter_in m) m) arqc

    abbrev above : Bool
    above = above_last t c (counter_in m)

    checks_as : (smi' smc' : List ℕ) → checks (keyed ac smi' smc' p t) pan q m arqc csu ≡ by (keyed ac smi' smc' p t) long (card_fits pan q) (held c t) right above
    unfolding checks checks_known checks_right session_of
    checks_as smi' smc' = refl

    by_over : (smi' smc' : List ℕ) (l f x s a : Bool) → by d l f x s a ≡ over_checked d (by (keyed ac smi' smc' p t) l f x s a)
    by_over smi' smc' true true true true true = given_over d (keyed ac smi' smc' p t) (arpc_of ks arqc csu) (keeping c (counter_in m) t)
    by_over smi' smc' true true true true false = refl
    by_over smi' smc' true true true false a = refl
    by_over smi' smc' true true false s a = refl
    by_over smi' smc' true false x s a = refl
    by_over smi' smc' false f x s a = refl

    pub checks_over : (smi' smc' : List ℕ) → checks d pan q m arqc csu ≡ over_checked d (checks (keyed ac smi' smc' p t) pan q m arqc csu)
    checks_over smi' smc' =
        checks_as smi smc ∙ by_over smi' smc' long (card_fits pan q) (held c t) right above ∙ ap (over_checked d) (sym (checks_as smi' smc'))

    pub turn_checks : length t ≡ 64 → AllSized t → Octets m → Turn (after_check (checks d pan q m arqc csu) d).desk.places
    turn_checks n z o =
        subst⁻¹ (λ (r : Result Checked Refusal). Turn (after_check r d).desk.places) (checks_as smi smc) (go long (card_fits pan q) (held c t) right above)
      where
        go : (l f x s a : Bool) → Turn (after_check (by d l f x s a) d).desk.places
        go true true true true true =
            given_turn d (arpc_of ks arqc csu) (keeping c (counter_in m) t) (turn_keeping t n z c (counter_in m) (counter_small m o))
        go true true true true false = stays t n z
        go true true true false a = stays t n z
        go true true false s a = stays t n z
        go true false x s a = stays t n z
        go false f x s a = stays t n z

  -- wrapping does not look at it
  module _ (i : ℕ) (g pin lent : List ℕ) (place : ℕ) (ac' : List ℕ) where
    pub wraps_over : wraps d pan q i g pin lent place ≡ wraps (keyed ac' smi smc p t) pan q i g pin lent place
    unfolding wraps wraps_order
    wraps_over = go (ordered i)
      where
        go : (l : Result Command Refusal) → wraps_listed d pan q l g pin lent place ≡ wraps_listed (keyed ac' smi smc p t) pan q l g pin lent place
        go (Ok x) = refl
        go (Err x) = refl
