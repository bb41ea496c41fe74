-- The number of live orders says whether the buffer has room; what is written is the view of every list of events.
use Prim.Native.Nat.{ℕ, ◌+◌, ◌*◌, ◌-◌}
use native.Mathlib.Omega.{arith}
use mathlib.Core.Path.{◌≡◌, sym, ap, ◌∙◌}
use lib.ListN.{length, take, drop}
use borrow.Author.Rules.{rules}
use Rattle.rules.specs.Orders.{live}
use Rattle.quantum_in_place.proofs.Whole.{table_held, held_is}
use Rattle.month_view.proofs.Orders.{as_many}
use Rattle.month_view.proofs.Shows.{good, table_is, listed, widest_law, shows_short, shows_all, front_length, orders_room}
use Rattle.month_view.proofs.show.Goals as goal

pub count-count-requires : goal.count-count-requires
count-count-requires c =
    table_held c.args.quantum.now c.requires.1 c.requires.0

pub returns-then-buffer-size : goal.returns-then-buffer-size
returns-then-buffer-size c row spread events g is =
    let q = c.args.quantum.now in
    shows_short q row spread events g is c.args.day c.args.allowed c.count-count.result
    (c.count-count.ensures row.minimum.0 (live events) (good q row spread events g is) (table_is q row spread events g is)) c.args.buffer.now c.if-buffer-size.true

pub slice_bounds-put_orders-end-2 : goal.slice_bounds-put_orders-end-2
slice_bounds-put_orders-end-2 c =
    let q = c.args.quantum.now in
    let r = c.requires.0.reached in
    let is = held_is q c.requires.1 c.requires.0 in
    omega (arith, c.requires.1, r.bounds.few, c.count-count.ensures r.row.minimum.0 (live r.events) (good q r.row r.sp r.events r.bounds is) (table_is q r.row r.sp r.events r.bounds is))

pub put_orders-requires : goal.put_orders-requires
put_orders-requires c =
    let q = c.args.quantum.now in
    let r = c.requires.0.reached in
    let is = held_is q c.requires.1 c.requires.0 in
    let count = c.count-count.ensures r.row.minimum.0 (live r.events) (good q r.row r.sp r.events r.bounds is) (table_is q r.row r.sp r.events r.bounds is) in
    let k : 522 + c.count-count.result - 522 ≡ length (live r.events) = omega (arith, count) in
    let l = listed q r.row r.sp r.events r.bounds is (522 + c.count-count.result - 522) k in
    let many : c.count-count.result ≡ length (take (522 + c.count-count.result - 522) (drop 522 q)) = count ∙ sym (as_many (take 512 (drop 10 q)) (take (522 + c.count-count.result - 522) (drop 522 q)) l) in (
      l,
      orders_room c.put_head.new.into c.args.buffer.now c.count-count.result (17 + 4 * c.count-count.result - 17)
          (ap length c.put_head.ensures ∙ front_length c.args.day c.args.allowed c.state-state.result c.count-count.result q c.requires.1) c.if-buffer-size.false (omega arith)
          ∙ ap (λ (n : ℕ). 4 * n) many,
    )

pub returns : goal.returns
returns c row spread events g is =
    let q = c.args.quantum.now in
    let held = good q row spread events g is in
    let table = table_is q row spread events g is in
    let count = c.count-count.ensures row.minimum.0 (live events) held table in
    let k : 522 + c.count-count.result - 522 ≡ length (live events) = omega (arith, count) in
    shows_all q row spread events g is c.args.day c.args.allowed c.count-count.result count c.args.buffer.now c.state-state.result
    (c.state-state.ensures row spread (live events) held table (widest_law q row spread events g is)) c.if-buffer-size.false
    c.put_head.new.into c.put_orders.new.into c.put_head.ensures (c.put_orders.ensures (listed q row spread events g is (522 + c.count-count.result - 522) k))
    (17 + 4 * c.count-count.result - 17) (omega arith)
