-- Laws of a whole load: from the vertex file and the edge file to the five areas. Assumes nothing.
use Rattle.std.specs.Prelude.{Result, Ok, Err, is_err}
use Prim.Native.Nat.{ℕ, ◌-◌, ◌≤◌}
use mathlib.Core.Path.{◌≡◌, refl, sym, ap, ap₂, subst, ◌∙◌}
use mathlib.Core.Bool.{Bool, true, false, ◌&&◌}
use mathlib.Core.List.{List}
use native.Mathlib.Omega.{arith}
use borrow.Author.Tests.{leb-true, ltb-true}
use lib.ListN.{length, take, replicate}
use lib.Seq.{take_at, take_all}
use lib.Dec.{eqb, leb, ltb}
use lib.IntN.{ℤ, pos}
use Rattle.basis.specs.Refusal.{Said, said, gives, refuses, plain, no_room, unknown_number, mapped, check}
use Rattle.basis.specs.declared.refusal.Refusal.{Refusal}
use Rattle.basis.specs.Area.{pad_z}
use Rattle.basis.specs.Order.{rising_z}
use Rattle.basis.proofs.Tests.{and_first, and_second, no-case}
use Rattle.basis.proofs.Saids.{mapped-gives, mapped-refuses, given-one, check-passed}
use Rattle.graph.specs.declared.Size.{Size}
use Rattle.graph.specs.Arcs.{Arc}
use Rattle.lists.proofs.Accepts.{vertices-accepted}
use Rattle.load.specs.declared.Limits.{Limits}
use Rattle.lists.specs.Files.{identifiers}
use Rattle.lists.specs.Calls.{VerticesRead, vertex_outcome, ids_area, vertex_call}
use Rattle.load.specs.Load.{Room, room_in, vertex_room, arcs_read, lists_read, loaded}
use Rattle.load.specs.Load.{Outcome, outcome, outcome_of, load_call}
use Rattle.load.specs.Steps.{Storing, Filled, filled, filled_by, filled_left, outcome_by, filled_load, outcome_left, Emptied}

-- ---- from the areas of the arcs to all five
module _ (room : Room) (ids : List ℤ) (a : List ℤ) (h : a ≡ pad_z room.ids ids) where
  pub five-areas : (r : Result Size Refusal) (oo ot io is : List ℕ) (x : Said (List Arc))
      → filled_left r oo ot io is ≡ mapped (filled_by (length ids) room.out_offsets room.out_targets room.in_offsets room.in_sources)
      x
      → outcome_left r a oo ot io is ≡ mapped (outcome_by room) (mapped (λ l. record { ids = ids; arcs = l }) x)
  unfolding outcome_of
  five-areas (Err o) oo ot io is (gives l) e = no-case cc
  five-areas (Err o) oo ot io is (refuses q) e = let p : o ≡ q = cc in ap refuses p
  five-areas (Ok size) oo ot io is (refuses q) e = no-case cc
  five-areas (Ok size) oo ot io is (gives l) e =
      let f : filled size oo ot io is ≡ filled_by (length ids) room.out_offsets room.out_targets room.in_offsets room.in_sources
      l = cc in
      ap gives (outcome-of (ap gives (ap (λ (y : Filled). y.size) f)) h (ap (λ (y : Filled). y.out_offsets) f)
      (ap (λ (y : Filled). y.out_targets) f)
      (ap (λ (y : Filled). y.in_offsets) f) (ap (λ (y : Filled). y.in_sources) f))
    where
      outcome-of : {p q : Said Size} {i i' : List ℤ} {a b c d a' b' c' d' : List ℕ} → p ≡ q → i ≡ i' → a ≡ a' → b ≡ b' → c ≡ c' → d ≡ d'
          → outcome p i a b c d ≡ outcome q i' a' b' c' d'
      outcome-of e f g h i j = cc

-- ---- the filling of five areas
module _ (limits : Limits) (mode : ℕ) (v e : List ℕ) (ids : List ℤ) (oo ot io is : List ℕ) where
  abbrev room : Room
  room = room_in ids oo ot io is

  abbrev result : Said Outcome
  result = filled_load limits mode room v e

  pub fill-mode : (r : Refusal) → ◌≡◌ {A = Said Bool} (refuses r) (check (leb mode 1) unknown_number (gives (eqb mode 0)))
      → refuses r ≡ result
  unfolding loaded
  fill-mode r e = go (leb mode 1) refl e
    where
      go : (t : Bool) → leb mode 1 ≡ t → ◌≡◌ {A = Said Bool} (refuses r) (check t unknown_number (gives (eqb mode 0))) → refuses r ≡ result
      go true q h = no-case cc
      go false q h = let p : r ≡ plain unknown_number = cc in rw (q, p)

  module _ (undirected : Bool) (known : gives undirected ≡ check (leb mode 1) unknown_number (gives (eqb mode 0)))
      (x : Result ℕ Refusal) (a : List ℤ)
      (told : vertex_outcome (said x) a ≡ vertex_call limits.vertices v (length ids)) where
    passed : (leb mode 1 ≡ true) × (gives (eqb mode 0) ≡ gives undirected)
    passed = check-passed (leb mode 1) unknown_number (gives (eqb mode 0)) undirected (sym known)

    answered : (r : Said ℕ) → said x ≡ r → r ≡ mapped length (identifiers limits.vertices v)
    answered r q = sym q ∙ ap (λ (y : VerticesRead). y.answer) told

    pub fill-refused : (r : Refusal) → x ≡ Err r → refuses r ≡ result
    unfolding loaded lists_read
    fill-refused r q =
        rw (passed.0, mapped-refuses length (identifiers limits.vertices v) r (answered (refuses r) (ap said q)))

    module _ (n : ℕ) (q : x ≡ Ok n) (la : ℕ) (kept : la ≡ length ids) (t : Bool) (et : t ≡ vertex_room la (length oo) (length io) n)
      where
        taken : (l : List ℤ) × (identifiers limits.vertices v ≡ gives l) × (n ≡ length l)
        taken = mapped-gives length (identifiers limits.vertices v) n (answered (gives n) (ap said q))

        abbrev list : List ℤ
        list = taken.0

        same-room : vertex_room (length ids) (length oo) (length io) (length list) ≡ t
        same-room = ap₂ (λ (k m : ℕ). vertex_room k (length oo) (length io) m) (sym kept) (sym taken.2) ∙ sym et

        pub fill-short : t ≡ false → (r : Refusal) → r ≡ plain no_room → refuses r ≡ result
        unfolding loaded lists_read
        fill-short f r o = rw (passed.0, taken.1, same-room ∙ f, o)

        module _ (f : t ≡ true) where
          fits : n ≤ length ids
          fits = let l = leb-true n la (and_first (leb n la) (ltb n (length oo) && ltb n (length io)) (sym et ∙ f)) in omega arith

          both-fit : (ltb n (length oo) && ltb n (length io)) ≡ true
          both-fit = and_second (leb n la) (ltb n (length oo) && ltb n (length io)) (sym et ∙ f)

          padded : a ≡ pad_z (length ids) list
          padded =
              ap (λ (y : VerticesRead). y.ids) told ∙ ap (ids_area (length ids)) taken.1
              ∙ ap (pad_z (length ids)) (take_all (length ids) list (let c = taken.2 in let g = fits in omega arith))

          front : take n a ≡ list
          front = ap (take n) padded ∙ take_at list (replicate (length ids - length list) (pos 0)) n (sym taken.2)

          -- the first n identifiers, lent on as b
          module _ (b : List ℤ) (eb : b ≡ take n a) where
            lent : b ≡ list
            lent = eb ∙ front

            lent-long : length b ≡ n
            lent-long = ap length lent ∙ sym taken.2

            pub fill-storing : Storing b oo io
            fill-storing =
                record {
                  rise = subst (λ (l : List ℤ). rising_z l ≡ true) (sym lent)
                      ((vertices-accepted limits.vertices v list).0 taken.1).rise;
                  places = let l = ltb-true n (length oo) (and_first (ltb n (length oo)) (ltb n (length io)) both-fit) in
                      omega (arith, lent-long);
                  back_places =
                      let l = ltb-true n (length io) (and_second (ltb n (length oo)) (ltb n (length io)) both-fit) in
                      omega (arith, lent-long);
                }

            pub fill_end : (r : Result Size Refusal) (oo' ot' io' is' : List ℕ)
                → filled_left r oo' ot' io' is'
                ≡ mapped (filled_by (length b) (length oo) (length ot) (length io) (length is))
                (arcs_read undirected limits.edges b e (length ot) (length is))
                → outcome_left r a oo' ot' io' is' ≡ result
            unfolding loaded lists_read
            fill_end r oo' ot' io' is' g =
                rw (passed.0, taken.1, same-room ∙ f, given-one passed.1)
                (five-areas room list a padded r oo' ot' io' is' (arcs_read undirected limits.edges list e (length ot) (length is))
                (g ∙ ap (λ (l : List ℤ). mapped (filled_by (length l) (length oo) (length ot) (length io) (length is))
                (arcs_read undirected limits.edges l e (length ot) (length is))) lent))

-- ---- the whole call: filled, and cleared where it was refused
module _ (limits : Limits) (mode : ℕ) (v e : List ℕ) (ids : List ℤ) (oo ot io is : List ℕ) (x : Result Size Refusal) (ids₁ : List ℤ)
    (oo₁ ot₁ io₁ is₁ : List ℕ)
    (told : outcome_left x ids₁ oo₁ ot₁ io₁ is₁ ≡ filled_load limits mode (room_in ids oo ot io is) v e)
    (most : Limits) (cap : limits ≡ most) where
  abbrev wide : Room
  wide = room_in ids oo ot io is

  kept : (size : Size) → x ≡ Ok size → outcome (gives size) ids₁ oo₁ ot₁ io₁ is₁ ≡ load_call most mode wide v e
  unfolding load_call
  kept size q =
      let g = mapped-gives (outcome_by wide) (loaded limits mode wide v e) (outcome (gives size) ids₁ oo₁ ot₁ io₁ is₁)
      (ap (λ y. outcome_left y ids₁ oo₁ ot₁ io₁ is₁) (sym q) ∙ told) in
      g.2 ∙ ap (outcome_of wide) (sym g.1) ∙ ap (λ l. load_call l mode wide v e) cap

  emptied : (r : Refusal) → x ≡ Err r → length ids₁ ≡ length ids → length oo₁ ≡ length oo → length ot₁ ≡ length ot
      → length io₁ ≡ length io → length is₁ ≡ length is
      → (ids₂ : List ℤ) (oo₂ ot₂ io₂ is₂ : List ℕ) → Emptied ids₁ oo₁ ot₁ io₁ is₁ ids₂ oo₂ ot₂ io₂ is₂
      → outcome (refuses r) ids₂ oo₂ ot₂ io₂ is₂ ≡ load_call most mode wide v e
  unfolding load_call outcome_of
  emptied r q li loo lot lio lis ids₂ oo₂ ot₂ io₂ is₂ f =
      let g = mapped-refuses (outcome_by wide) (loaded limits mode wide v e) r
      (ap (λ y. outcome_left y ids₁ oo₁ ot₁ io₁ is₁) (sym q) ∙ told) in
      rw (f.empty_ids, f.empty_out_offsets, f.empty_out_targets, f.empty_in_offsets, f.empty_in_sources, li, loo, lot, lio, lis)
      (ap (outcome_of wide) (sym g) ∙ ap (λ l. load_call l mode wide v e) cap)

  pub load-graph : is_err x ≡ false → outcome (said x) ids₁ oo₁ ot₁ io₁ is₁ ≡ load_call most mode wide v e
  load-graph h = go x refl h
    where
      go : (y : Result Size Refusal) → x ≡ y → is_err y ≡ false → outcome (said y) ids₁ oo₁ ot₁ io₁ is₁ ≡ load_call most mode wide v e
      go (Ok size) q h = kept size q
      go (Err r) q h = no-case cc

  pub load-refused : is_err x ≡ true → length ids₁ ≡ length ids → length oo₁ ≡ length oo → length ot₁ ≡ length ot
      → length io₁ ≡ length io → length is₁ ≡ length is
      → (ids₂ : List ℤ) (oo₂ ot₂ io₂ is₂ : List ℕ) → Emptied ids₁ oo₁ ot₁ io₁ is₁ ids₂ oo₂ ot₂ io₂ is₂
      → outcome (said x) ids₂ oo₂ ot₂ io₂ is₂ ≡ load_call most mode wide v e
  load-refused h li loo lot lio lis ids₂ oo₂ ot₂ io₂ is₂ f = go x refl h
    where
      go : (y : Result Size Refusal) → x ≡ y → is_err y ≡ true → outcome (said y) ids₂ oo₂ ot₂ io₂ is₂ ≡ load_call most mode wide v e
      go (Ok size) q h = no-case cc
      go (Err r) q h = emptied r q li loo lot lio lis ids₂ oo₂ ot₂ io₂ is₂ f
