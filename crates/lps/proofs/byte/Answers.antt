use mathlib.Core.Path.{◌≡◌, ap}
use Prim.Native.Nat.{◌<◌}
use native.Mathlib.Omega.{arith}
use borrow.Author.Rules.{rules}
use Rattle.lps.specs.Inner.{byte_at}
use Rattle.lps.proofs.Columns.{lost, lowest_byte}
use Rattle.lps.proofs.byte.Goals as goal

pub returns-then-j-lt5 : goal.returns-then-j-lt5
returns-then-j-lt5 c = let a = c.args in
    let h : a.j < 5 = search rules in
    let l = lowest_byte a.x.now a.u.now a.v.now a.w.now a.k a.j h in
    (l.0, omega arith, l.1)

pub overflow_cast-result : goal.overflow_cast-result
overflow_cast-result c = omega (arith, c.shared_slice_known-1.given c.args.k)

pub returns-then-j-eq5 : goal.returns-then-j-eq5
returns-then-j-eq5 c = let a = c.args in
    let e : 5 ≡ a.j = omega arith in
    (ap (byte_at a.x.now a.u.now a.v.now a.w.now a.k) e, omega (arith, c.shared_slice_known-1.given a.k), ap (lost a.x.now) e)

pub overflow_cast-result-then-j-eq6 : goal.overflow_cast-result-then-j-eq6
overflow_cast-result-then-j-eq6 c = omega (arith, c.shared_slice_known-then-j-eq6-1.given c.args.k)

pub returns-then-j-eq6 : goal.returns-then-j-eq6
returns-then-j-eq6 c = let a = c.args in
    let e : 6 ≡ a.j = omega arith in
    (ap (byte_at a.x.now a.u.now a.v.now a.w.now a.k) e, omega (arith, c.shared_slice_known-then-j-eq6-1.given a.k), ap (lost a.x.now) e)

pub overflow_cast-result-2 : goal.overflow_cast-result-2
overflow_cast-result-2 c = omega (arith, c.shared_slice_known-2-1.given c.args.k)

pub returns : goal.returns
returns c = let a = c.args in
    let e : 7 ≡ a.j = omega arith in
    (ap (byte_at a.x.now a.u.now a.v.now a.w.now a.k) e, omega (arith, c.shared_slice_known-2-1.given a.k), ap (lost a.x.now) e)
