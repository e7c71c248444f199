-- What is accepted, from its first object on: what a 71 or 72 holds. Assumes nothing.
use mathlib.Core.Path.{◌≡◌, refl, sym, ap, ap₂, subst, ◌∙◌}
use mathlib.Core.Bool.{Bool, true, false, ◌&&◌, ◌||◌, not, cond}
use mathlib.Core.List.{List, [], ◌∷◌, ◌++◌, append_assoc}
use mathlib.Core.Option.{none, some}
use Prim.Native.Nat.{ℕ, ◌+◌, ◌≤◌, ◌<◌}
use native.Mathlib.Omega.{arith}
use borrow.Author.Tests.{le-leb, leb-true, leb-false}
use lib.Dec.{leb}
use lib.ListN.{length, length-append}
use Rattle.shapes.specs.Length.{largest}
use Rattle.templates.specs.declared.Holder.{Holder}
use Rattle.templates.specs.declared.Holder.TheVariants.{Fresh, Begun}
use Rattle.templates.specs.declared.Object.{Object}
use Rattle.templates.specs.Grammar.{Script, command_tag, identifier_tag, object, written_identifier, written_commands, written_script, identifier_fits, commands_fit, head_size}
use Rattle.templates.specs.Reading.{stands, after, within, is_template, is_data, length_fits}
use Rattle.templates.proofs.HeadLaws.{both, joined, length-object}
use Rattle.templates.proofs.ParseLaws.{InFresh, an_identifier, a_command, in_fresh, in_begun}
use Rattle.scripts.specs.Writing.{lies, all_lie, bytes_within, length_of_first, data_in, open_at, level_after, holder_after, fault_from}
use Rattle.scripts.specs.Statement.{Shown, shown, given}
use Rattle.scripts.proofs.LeafLaws.{open_innermost}
use Rattle.scripts.proofs.FaultLaws.{first, place}
use Rattle.scripts.proofs.WriteLaws.{data_length_lem, lie_parts}
use Rattle.scripts.proofs.ShownLaws.{one, commands_shown, script_shown, command_data, identifier_data, first_data, within_data, first_level}

-- the first objects, at level l or deeper, show xs and are written as w; the rest, which stand above level l, are judged on
pub record Left (s : List ℕ) (l : ℕ) (os : List Object) (xs : List Shown) (w : List ℕ) : Type 0 where
  pub rest : List Object
  pub level : ℕ
  pub holder : Holder
  pub count : ℕ
  pub deep : l ≤ level
  pub is_given : given s os ≡ xs ++ given s rest
  pub is_within : (m : ℕ) → m < l → bytes_within m os ≡ length w + bytes_within m rest
  pub under : first_level rest < l
  pub fault : fault_from level holder count rest ≡ 0
  pub lie : all_lie s rest ≡ true
  pub fewer : length rest ≤ length os

pub all_left : (s : List ℕ) (l d : ℕ) (h : Holder) (c : ℕ) (os : List Object) → l ≤ d → first_level os < l → fault_from d h c os ≡ 0 → all_lie s os ≡ true
    → Left s l os [] []
all_left s l d h c os p u f y =
    record {
      rest = os;
      level = d;
      holder = h;
      count = c;
      deep = p;
      is_given = refl;
      is_within = λ m z. omega arith;
      under = u;
      fault = f;
      lie = y;
      fewer = omega arith;
    }

-- objects ahead of them that show xs and are written as w
pub left_more : (s : List ℕ) (l : ℕ) (os : List Object) (xs : List Shown) (w : List ℕ) (r : List Object) → given s os ≡ xs ++ given s r
    → ((m : ℕ) → m < l → bytes_within m os ≡ length w + bytes_within m r) → length r ≤ length os
    → (ys : List Shown) (v : List ℕ) → Left s l r ys v → Left s l os (xs ++ ys) (w ++ v)
left_more s l os xs w r a b n ys v g =
    let k = g.fewer in
    record {
      rest = g.rest;
      level = g.level;
      holder = g.holder;
      count = g.count;
      deep = g.deep;
      is_given = a ∙ ap (λ (z : List Shown). xs ++ z) g.is_given ∙ sym (append_assoc xs ys (given s g.rest));
      is_within = λ m z. (let i = b m z in let j = g.is_within m z in let e = length-append w v in omega arith);
      under = g.under;
      fault = g.fault;
      lie = g.lie;
      fewer = omega arith;
    }

-- the first object that is judged 0
pub data_most : (s : List ℕ) (o : Object) → is_data o.tag ≡ true → lies s o ≡ true → o.length ≤ largest
unfolding lies
data_most s o e l =
    leb-true _ _ (both {a = leb o.length largest} (ap (λ (x : Bool). not x || (leb o.length largest && leb (o.place + o.length) (length s))) (sym e)
    ∙ l)).0

pub first_low : (d : ℕ) (h : Holder) (c : ℕ) (os : List Object) → fault_from d h c os ≡ 0 → first_level os ≤ d
first_low d h c [] e = omega arith
first_low d h c (o ∷ os) e = (place d h o (length_of_first o os) (first d h c o os e).fits).open_there

-- an object with data of its own, in the innermost holder h at level l
record Data (s : List ℕ) (t l : ℕ) (h : Holder) (c : ℕ) (o : Object) (os : List Object) : Type 0 where
  pub is_given : given s (o ∷ os) ≡ one t l (length (data_in s o)) (data_in s o) ∷ given s os
  pub is_within : (m : ℕ) → m < l → bytes_within m (o ∷ os) ≡ length (object t (data_in s o)) + bytes_within m os
  pub most : length (data_in s o) ≤ largest
  pub long : length_fits t (length (data_in s o)) ≡ true
  pub fault : fault_from l (after h) (c + 1) os ≡ 0
  pub lie : all_lie s os ≡ true

module _ (s : List ℕ) (t l : ℕ) (h : Holder) (c : ℕ) (o : Object) (os : List Object) (e : is_data t ≡ true) (n : is_template t ≡ false)
    (f : fault_from l h c (o ∷ os) ≡ 0) (y : all_lie s (o ∷ os) ≡ true) (i : o.tag ≡ t) (j : o.level ≡ l) where
  its_data : is_data o.tag ≡ true
  its_data = ap is_data i ∙ e

  its_lies : lies s o ≡ true
  its_lies = (lie_parts s o os y).0

  its_length : length (data_in s o) ≡ o.length
  its_length = data_length_lem s o its_data its_lies

  data_given : given s (o ∷ os) ≡ one t l (length (data_in s o)) (data_in s o) ∷ given s os
  unfolding given shown
  data_given =
      ap₂ (λ (u v : ℕ). one u v (length_of_first o os) (data_in s o) ∷ given s os) i j
      ∙ ap (λ (u : ℕ). one t l u (data_in s o) ∷ given s os) (first_data o os its_data ∙ sym its_length)

  data_within : (m : ℕ) → m < l → bytes_within m (o ∷ os) ≡ length (object t (data_in s o)) + bytes_within m os
  data_within m z =
      let a = within_data o os m (subst (λ (u : ℕ). m < u) (sym j) z) its_data in
      let b = length-object t (data_in s o) in
      let k = its_length in
      let g : head_size o.tag o.length ≡ head_size t (length (data_in s o)) = ap₂ head_size i (sym its_length) in
      omega arith

  data_fault : fault_from l (after h) (c + 1) os ≡ 0
  unfolding level_after holder_after
  data_fault =
      ap₂ (λ (u : ℕ) (k : Holder). fault_from u (after k) (c + 1) os) (sym j) (open_innermost l h o.level j)
      ∙ ap (λ (b : Bool). fault_from (cond b (o.level + 1) o.level) (cond b (within o.tag) (after (open_at l h o.level))) (c + 1) os)
      (sym (ap is_template i ∙ n))
      ∙ (first l h c o os f).rest

  data_first : Data s t l h c o os
  data_first =
      record {
        is_given = data_given;
        is_within = data_within;
        most = subst (λ (u : ℕ). u ≤ largest) (sym its_length) (data_most s o its_data its_lies);
        long = ap₂ length_fits (sym i) its_length ∙ (place l h o (length_of_first o os) (first l h c o os f).fits).long;
        fault = data_fault;
        lie = (lie_parts s o os y).1;
      }

-- commands
record Commands (s : List ℕ) (l : ℕ) (os : List Object) : Type 0 where
  pub commands : List (List ℕ)
  pub fit : commands_fit commands ≡ true
  pub left : Left s l os (commands_shown l commands) (written_commands commands)

no_commands : (s : List ℕ) (l : ℕ) (h : Holder) (c : ℕ) (os : List Object) → first_level os < l → fault_from l h c os ≡ 0 → all_lie s os ≡ true → Commands s l os
unfolding written_commands commands_fit
no_commands s l h c os u f y = record { commands = []; fit = refl; left = all_left s l l h c os (omega arith) u f y }

command_more : (s : List ℕ) (l : ℕ) (h : Holder) (c : ℕ) (o : Object) (os : List Object) → Data s command_tag l h c o os → Commands s l os
    → Commands s l (o ∷ os)
unfolding written_commands commands_fit
command_more s l h c o os x g =
    let d = data_in s o in
    record {
      commands = d ∷ g.commands;
      fit = joined (le-leb _ _ x.most, g.fit);
      left = left_more s l (o ∷ os) (one command_tag l (length d) d ∷ []) (object command_tag d) os x.is_given x.is_within (omega arith)
          (commands_shown l g.commands) (written_commands g.commands) g.left;
    }

-- whether the first object stands at level l, where level l is the innermost
pub data At (l : ℕ) (o : Object) : Type 0 where
  here : o.level ≡ l → At l o
  outside : o.level < l → At l o

pub where_at : (l : ℕ) (o : Object) → o.level ≤ l → At l o
where_at l o h = go (leb l o.level) refl
  where
    go : (b : Bool) → leb l o.level ≡ b → At l o
    go true e = let x : l ≤ o.level = leb-true _ _ e in here (omega arith)
    go false e = outside (leb-false _ _ e)

stood_here : (l : ℕ) (h : Holder) (c : ℕ) (o : Object) (os : List Object) → fault_from l h c (o ∷ os) ≡ 0 → o.level ≡ l → stands h o.tag ≡ true
stood_here l h c o os f j =
    ap (λ (k : Holder). stands k o.tag) (open_innermost l h o.level j) ∙ (place l h o (length_of_first o os) (first l h c o os f).fits).stood

commands_of : (s : List ℕ) (l c : ℕ) (os : List Object) → 1 ≤ l → fault_from l Begun c os ≡ 0 → all_lie s os ≡ true → Commands s l os
unfolding is_template stands after
commands_of s l c [] one f y = no_commands s l Begun c [] one f y
commands_of s l c (o ∷ os) one f y = go (where_at l o (first_low l Begun c (o ∷ os) f)) (λ z w. commands_of s l (c + 1) os one z w)
  where
    go : At l o → (fault_from l Begun (c + 1) os ≡ 0 → all_lie s os ≡ true → Commands s l os) → Commands s l (o ∷ os)
    go (outside u) rec = no_commands s l Begun c (o ∷ os) u f y
    go (here j) rec =
        let x = data_first s command_tag l Begun c o os command_data refl f y (in_begun o.tag (stood_here l Begun c o os f j)) j in
        command_more s l Begun c o os x (rec x.fault x.lie)

-- what a 71 or 72 holds
pub record Scripted (s : List ℕ) (l : ℕ) (os : List Object) : Type 0 where
  pub script_is : Script
  pub fit : (identifier_fits script_is.identifier && commands_fit script_is.commands) ≡ true
  pub left : Left s l os (script_shown l script_is) (written_script script_is)

plain : (s : List ℕ) (l : ℕ) (os : List Object) → Commands s l os → Scripted s l os
unfolding written_script written_identifier identifier_fits
plain s l os g = record { script_is = record { identifier = none; commands = g.commands }; fit = g.fit; left = g.left }

identified : (s : List ℕ) (l : ℕ) (h : Holder) (c : ℕ) (o : Object) (os : List Object) → Data s identifier_tag l h c o os → Commands s l os
    → Scripted s l (o ∷ os)
unfolding written_script written_identifier identifier_fits length_fits
identified s l h c o os x g =
    let d = data_in s o in
    record {
      script_is = record { identifier = some d; commands = g.commands };
      fit = joined (x.long, g.fit);
      left = left_more s l (o ∷ os) (one identifier_tag l (length d) d ∷ []) (object identifier_tag d) os x.is_given x.is_within (omega arith)
          (commands_shown l g.commands) (written_commands g.commands) g.left;
    }

pub script_of : (s : List ℕ) (l c : ℕ) (os : List Object) → 1 ≤ l → fault_from l Fresh c os ≡ 0 → all_lie s os ≡ true → Scripted s l os
unfolding is_template stands after
script_of s l c [] one f y = plain s l [] (no_commands s l Fresh c [] one f y)
script_of s l c (o ∷ os) one f y = go (where_at l o (first_low l Fresh c (o ∷ os) f))
  where
    held : (j : o.level ≡ l) → InFresh o.tag → Scripted s l (o ∷ os)
    held j (a_command i) =
        let x = data_first s command_tag l Fresh c o os command_data refl f y i j in
        plain s l (o ∷ os) (command_more s l Fresh c o os x (commands_of s l (c + 1) os one x.fault x.lie))
    held j (an_identifier i) =
        let x = data_first s identifier_tag l Fresh c o os identifier_data refl f y i j in
        identified s l Fresh c o os x (commands_of s l (c + 1) os one x.fault x.lie)

    go : At l o → Scripted s l (o ∷ os)
    go (outside u) = plain s l (o ∷ os) (no_commands s l Fresh c (o ∷ os) u f y)
    go (here j) = held j (in_fresh o.tag (stood_here l Fresh c o os f j))
