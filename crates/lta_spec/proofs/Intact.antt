-- The engine's tests of 11 pass on a cell whose places hold the rows of a sound cell's sets.
use Prim.Native.Nat.{ℕ, zero, suc, ◌+◌, ◌*◌, ◌≤◌, ◌<◌}
use mathlib.Core.Path.{◌≡◌, refl, ap₂, subst}
use mathlib.Core.Bool.{Bool, true, false, cond, ◌||◌}
use mathlib.Core.List.{List, [], ◌∷◌, map}
use native.Mathlib.Omega.{arith}
use lib.Dec.{leb, eqb}
use lib.ListN.{length, get_or}
use borrow.Author.Tests.{le-leb, lt-ltb, eq-eqb}
use Rattle.lta_spec.specs.Shape.{open_limit, bin_limit, run_limit}
use Rattle.lta_spec.specs.Words.{every, over_all}
use Rattle.lta_spec.specs.Tick.{Sample}
use Rattle.lta_spec.specs.Place.{Stamped, Cell}
use Rattle.lta_spec.specs.Row.{ticks_of, row_ok}
use Rattle.lta_spec.specs.Machine as M
use Rattle.lta_spec.specs.Machine.{Ticks}
use Rattle.lta_spec.specs.Engine as E
use Rattle.lta_spec.specs.Engine.{Row}
use Rattle.lta_spec.specs.Damage as D
use Rattle.lta_spec.proofs.TestLaws.{both}
use Rattle.lta_spec.proofs.RowLaws.{numbers-size, row-ok, window, window-ok}
use Rattle.lta_spec.proofs.Carry.{row, map_stamped, map_bin, map_cell, bin-carry, loss-carry}
use Rattle.lta_spec.proofs.WordLaws.{over-at}
use Rattle.lta_spec.proofs.Conserve.{over_cell}
use Rattle.lta_spec.proofs.Sound.{Sound}

either : (a b : Bool) → b ≡ true → a || b ≡ true
either true b e = refl
either false b e = e

every_map : {A B : Type 0} (f : B → Bool) (g : A → B) (d : A) (l : List A)
    → ((k : ℕ) → f (g (get_or l k d)) ≡ true) → every f (map g l) ≡ true
every_map f g d [] h = refl
every_map f g d (x ∷ xs) h = both (h 0) (every_map f g d xs (λ k. h (suc k)))

-- "flag 1, or no ticks", from a ceiling that the flag multiplies
free-or-empty : (limit flag ticks : ℕ) → ticks ≤ limit * flag → leb 1 flag || eqb ticks 0 ≡ true
free-or-empty limit zero ticks h = eq-eqb ticks 0 (omega arith)
free-or-empty limit (suc flag) ticks h = rw (le-leb 1 (suc flag) (omega arith))

module _ (n B t : ℕ) (xs ys : List Sample) (c : Cell Ticks) (s : Sound B t c) (few : over_cell length c ≤ t)
    (run : t ≤ run_limit)
  where
    abbrev e : Cell Row
    e = map_cell (row n xs ys) c

    loss-le : (k : ℕ) → length (get_or c.losses k []) ≤ over_all length c.losses
    loss-le = over-at length [] refl c.losses

    losses-ok : D.losses_ok e.losses ≡ true
    unfolding D.losses_ok map_cell
    losses-ok =
        every_map (row_ok run_limit) (row n xs ys) [] c.losses
        (λ k. row-ok n xs ys (get_or c.losses k []) run_limit (omega (arith, loss-le k)))

    -- a loss holds as many ticks more as another place has
    holds : (i more : ℕ) → over_all length c.losses + more ≤ run_limit → D.loss_holds n i more e ≡ true
    holds i more h =
        rw (loss-carry n xs ys i c, numbers-size n xs ys (get_or c.losses i []))
        (le-leb (length (get_or c.losses i []) + more) run_limit (omega (arith, loss-le i)))

    content-ok : (limit : ℕ) (p : Stamped Ticks) → length p.members ≤ limit → p.stamp ≤ t
        → D.content_ok limit t (map_stamped (row n xs ys) p) ≡ true
    unfolding map_stamped
    content-ok limit p h k = both (row-ok n xs ys p.members limit h) (le-leb _ _ k)

    open-ok : D.open_ok t e ≡ true
    unfolding map_cell
    open-ok = content-ok open_limit c.opened s.flat.opened s.flat.open_stamp

    held-ok : D.held_ok t e.held ≡ true
    unfolding map_cell map_stamped
    held-ok =
        let f = s.flat in
        let size = numbers-size n xs ys c.held.content.members in
        both (both (row-ok n xs ys c.held.content.members open_limit (omega arith)) (le-leb _ _ f.held_stamp))
        (both (le-leb _ _ f.occupied) (rw size (free-or-empty open_limit c.held.occupied _ f.held)))

    label-ok : D.label_ok B e.held.label ≡ true
    unfolding map_cell
    label-ok =
        let l = s.flat.label in
        both (le-leb _ _ l.command) (both (lt-ltb _ _ l.bank) (lt-ltb _ _ l.bin))

    bin-ok : (k : ℕ) → D.bin_ok t (E.bin_at n k e) ≡ true
    unfolding map_bin map_stamped
    bin-ok k =
        let b = s.bins k in
        let size = numbers-size n xs ys (M.bin_at k c).content.members in
        rw (bin-carry n xs ys k c)
        (both (both (row-ok n xs ys (M.bin_at k c).content.members bin_limit b.few) (le-leb _ _ b.stamp))
        (both (le-leb _ _ b.state) (rw size (free-or-empty bin_limit (M.bin_at k c).state _ b.free))))

    bin-le : (k : ℕ) → length (M.bin_at k c).content.members ≤ over_all (λ b. length b.content.members) c.bins
    unfolding M.bin_at
    bin-le k = over-at (λ b. length b.content.members) M.free_bin refl c.bins k

    open-size : ticks_of e.opened.members ≡ length c.opened.members
    unfolding map_cell map_stamped
    open-size = numbers-size n xs ys c.opened.members

    held-size : ticks_of e.held.content.members ≡ length c.held.content.members
    unfolding map_cell map_stamped
    held-size = numbers-size n xs ys c.held.content.members

    bin-size : (k : ℕ) → ticks_of (E.bin_at n k e).content.members ≡ length (M.bin_at k c).content.members
    unfolding map_bin map_stamped
    bin-size k = rw (bin-carry n xs ys k c) (numbers-size n xs ys (M.bin_at k c).content.members)

    pub tick-intact : (k : E.Counter) (p : E.Picks) (wx wy : List Sample) → t < run_limit
        → D.tick_sound n t (record { cell = e; counter = k; picks = p; xs = window n wx; ys = window n wy }) ≡ true
    unfolding D.tick_sound
    tick-intact k p wx wy l =
        both (both (window-ok n wx) (window-ok n wy))
        (both open-ok (both losses-ok (either (E.has_room n e) _ (holds 5 1 (omega arith)))))

    dump-holds : (x y z : Bool) → D.dump_holds n x y z e ≡ true
    unfolding D.dump_holds
    dump-holds true y z = refl
    dump-holds false true z = rw open-size (holds 0 (length c.opened.members) (omega arith))
    dump-holds false false true = rw open-size (holds 1 (length c.opened.members) (omega arith))
    dump-holds false false false = refl

    pub dump-intact : (command : ℕ) → D.dump_sound n B t command e ≡ true
    unfolding D.dump_sound D.dump_parts
    dump-intact command = both (both open-ok (both held-ok (both label-ok losses-ok))) (dump-holds _ _ _)

    integrate-holds : (k : ℕ) (x y z : Bool) → D.integrate_holds n x y z (E.bin_at n k e) e ≡ true
    unfolding D.integrate_holds
    integrate-holds k true y z = rw held-size (holds 2 (length c.held.content.members) (omega arith))
    integrate-holds k false true z =
        rw (bin-size k) (holds 3 (length (M.bin_at k c).content.members) (omega (arith, bin-le k)))
    integrate-holds k false false true = rw held-size (holds 4 (length c.held.content.members) (omega arith))
    integrate-holds k false false false = refl

    bin-sound : (k : ℕ) → D.integrate_bin_sound n t (E.bin_at n k e) e ≡ true
    unfolding D.integrate_bin_sound
    bin-sound k = both (bin-ok k) (integrate-holds k _ _ _)

    pub integrate-intact : D.integrate_sound n B t e ≡ true
    unfolding D.integrate_sound
    integrate-intact =
        both (both held-ok losses-ok)
        (where-occupied (eqb e.held.occupied 1) _ (both label-ok (bin-sound (E.held_bin n B e))))
      where
        where-occupied : (b p : Bool) → p ≡ true → cond b p true ≡ true
        where-occupied true p h = h
        where-occupied false p h = refl

    pub emit-intact : (k : ℕ) → D.emit_sound n t k e ≡ true
    unfolding D.emit_sound
    emit-intact k = bin-ok k

    -- of a pick: every bin
    pub bins-intact : every (D.bin_ok t) e.bins ≡ true
    unfolding map_cell map_bin map_stamped M.bin_at
    bins-intact =
        every_map (D.bin_ok t) (map_bin (row n xs ys)) M.free_bin c.bins
        (λ k. subst (λ b. D.bin_ok t b ≡ true) (bin-carry n xs ys k c) (bin-ok k))

    pub read-intact : D.read_sound e ≡ true
    read-intact = losses-ok

    -- the six losses together have no more ticks than there were
    together : (ls : List Ticks) → over_all ticks_of (map (row n xs ys) ls) ≡ over_all length ls
    together [] = refl
    together (s ∷ ls) = ap₂ ◌+◌ (numbers-size n xs ys s) (together ls)

    pub page-intact : D.page_sound e ≡ true
    unfolding D.page_sound map_cell
    page-intact =
        both losses-ok
        (le-leb (over_all ticks_of (map (row n xs ys) c.losses)) run_limit (omega (arith, together c.losses)))

    pub forecast-intact : D.forecast_sound t e ≡ true
    forecast-intact = open-ok
