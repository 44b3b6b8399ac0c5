-- Laws of single bytes: of a range, at a place, and of the first byte c of a list. Assumes nothing.
use Prim.Native.Nat.{ℕ, suc, ◌+◌, ◌-◌, ◌≤◌, ◌<◌}
use mathlib.Core.Path.{◌≡◌, refl, sym, ap, ◌∙◌}
use mathlib.Core.List.{List, [], ◌∷◌, ◌++◌}
use mathlib.Core.Bool.{Bool, true, false, ◌||◌}
use native.Mathlib.Omega.{arith}
use borrow.Author.Tests.{le-leb, lt-leb, leb-true, lt-ltb, le-ltb, ltb-true, ltb-false, eq-eqb, ne_eqb, eqb-true}
use lib.Dec.{leb, ltb, eqb}
use lib.ListN.{length, get_or, take, drop, length-drop, get_or-eq_default}
use lib.Seq.{drop-drop, drop-append-add, take_all}
use Rattle.std.specs.Prelude.{Option, None, Some, is_some}
use Rattle.std.specs.Option.{unwrap_or, option_map, option_eq}
use Rattle.std.specs.Char.{is_ascii_digit}
use Rattle.std.specs.List.{position, position_or_len}
use Rattle.std.proofs.Common.{Bor}
use Rattle.basis.specs.Scan.{mem}
use Rattle.basis.proofs.Tests.{clash, bool_cases, and_first, and_second, and_both, and-off, or-first, or-second, eqb_swap}
use Rattle.text.specs.Word.{within, is_digit}
use Rattle.text.specs.Line.{up_to, past}
use Rattle.text.specs.Scan.{has_at}

-- ---- a byte from lo to hi
pub within-yes : {lo hi b : ℕ} → lo ≤ b → b ≤ hi → within lo hi b ≡ true
unfolding within
within-yes {lo} {hi} {b} h k = and_both (le-leb lo b h) (le-leb b hi k)

-- as the library tests one
pub digit-is : (b : ℕ) → is_ascii_digit b ≡ is_digit b
unfolding within
digit-is b = refl

pub within_low : {lo b : ℕ} (hi : ℕ) → b < lo → within lo hi b ≡ false
unfolding within
within_low {lo} {b} hi h = rw (lt-leb lo b h)

pub within-high : {hi b : ℕ} (lo : ℕ) → hi < b → within lo hi b ≡ false
unfolding within
within-high {hi} {b} lo h = and-off (leb lo b) (leb b hi) (lt-leb b hi h)

pub within-is : (lo hi b : ℕ) → within lo hi b ≡ true → (lo ≤ b) × (b ≤ hi)
unfolding within
within-is lo hi b e = (leb-true lo b (and_first (leb lo b) (leb b hi) e), leb-true b hi (and_second (leb lo b) (leb b hi) e))

-- a byte that is no digit begins no number
pub no-first : (c : ℕ) → is_digit c ≡ false → within 49 57 c ≡ false
no-first c d =
    bool_cases (within 49 57 c) (within 49 57 c ≡ false)
    (λ e. let h = within-is 49 57 c e in clash (within-yes {lo = 48} {hi = 57} {b = c} (omega arith) (omega arith)) d)
    (λ e. e)

pub no_zero : (c : ℕ) → is_digit c ≡ false → eqb c 48 ≡ false
no_zero c d = ne_eqb c 48 (λ q. clash (within-yes {lo = 48} {hi = 57} {b = c} (omega arith) (omega arith)) d)

pub first-digit : (b : ℕ) → within 49 57 b ≡ true → is_digit b ≡ true
first-digit b w = let h = within-is 49 57 b w in within-yes (omega arith) (omega arith)

-- ---- the byte c at a place
pub has-yes : (s : List ℕ) (p c : ℕ) → p < length s → eqb (get_or s p 0) c ≡ has_at s p c
unfolding has_at
has-yes s p c h = rw (lt-ltb p (length s) h)

pub has-past : (s : List ℕ) (p c : ℕ) → length s ≤ p → false ≡ has_at s p c
unfolding has_at
has-past s p c h = rw (le-ltb p (length s) h)

pub has-below : (s : List ℕ) (p c : ℕ) → has_at s p c ≡ true → p < length s
unfolding has_at
has-below s p c q = ltb-true p (length s) (and_first (ltb p (length s)) (eqb (get_or s p 0) c) q)

pub has-is : (s : List ℕ) (p c : ℕ) → has_at s p c ≡ true → get_or s p 0 ≡ c
unfolding has_at
has-is s p c q = eqb-true (get_or s p 0) c (and_second (ltb p (length s)) (eqb (get_or s p 0) c) q)

-- a byte above 0 stands within the file
pub has-here : (s : List ℕ) (p c : ℕ) → get_or s p 0 ≡ suc c → has_at s p (suc c) ≡ true
unfolding has_at
has-here s p c e =
    bool_cases (ltb p (length s)) _ (λ t. rw (t, eq-eqb (get_or s p 0) (suc c) e))
    (λ t. absurd (omega (arith, e, get_or-eq_default s 0 (ltb-false p (length s) t))))

pub has_no : (s : List ℕ) (p c : ℕ) → (get_or s p 0 ≡ c → ⊥) → has_at s p c ≡ false
unfolding has_at
has_no s p c h = and-off (ltb p (length s)) (eqb (get_or s p 0) c) (ne_eqb (get_or s p 0) c h)

pub nothing-past : (s : List ℕ) (at : ℕ) → length s ≤ at → get_or s at 0 ≡ 0
nothing-past s at h = get_or-eq_default s 0 h

-- ---- the first c of a list
pub not-head : (c b : ℕ) (l : List ℕ) → mem c (b ∷ l) ≡ false → eqb b c ≡ false
unfolding mem
not-head c b l n = bool_cases (eqb b c) (eqb b c ≡ false) (λ e. clash (or-first (eqb c b) (mem c l) (eqb_swap c b ∙ e)) n) (λ e. e)

pub not-tail : (c b : ℕ) (l : List ℕ) → mem c (b ∷ l) ≡ false → mem c l ≡ false
unfolding mem
not-tail c b l n = bool_cases (mem c l) (mem c l ≡ false) (λ e. clash (or-second (eqb c b) (mem c l) e) n) (λ e. e)

pub up_to-stop : (c b : ℕ) (l : List ℕ) → eqb c b ≡ true → up_to c (b ∷ l) ≡ []
up_to-stop c b l e = rw (e, up_to)

pub up_to-more : (c b : ℕ) (l : List ℕ) → eqb c b ≡ false → up_to c (b ∷ l) ≡ b ∷ up_to c l
up_to-more c b l e = rw (e, up_to)

pub past_stop : (c b : ℕ) (l : List ℕ) → eqb c b ≡ true → past c (b ∷ l) ≡ l
past_stop c b l e = rw (e, past)

pub past_more : (c b : ℕ) (l : List ℕ) → eqb c b ≡ false → past c (b ∷ l) ≡ past c l
past_more c b l e = rw (e, past)

-- a list that has a c is what stands before the first, c, and what stands after it
pub cut_at : (c : ℕ) (l : List ℕ) → mem c l ≡ true → l ≡ up_to c l ++ c ∷ past c l
unfolding mem
cut_at c [] h = clash h refl
cut_at c (b ∷ l) h = by (eqb c b) refl h (cut_at c l)
  where
    by : (t : Bool) → eqb c b ≡ t → (t || mem c l) ≡ true → (mem c l ≡ true → l ≡ up_to c l ++ c ∷ past c l)
        → b ∷ l ≡ up_to c (b ∷ l) ++ c ∷ past c (b ∷ l)
    by true e k f = rw (up_to-stop c b l e, past_stop c b l e) (ap (λ (x : ℕ). x ∷ l) (sym (eqb-true c b e)))
    by false e k f = rw (up_to-more c b l e, past_more c b l e) (ap (λ (t : List ℕ). b ∷ t) (f k))

pub up_to-none : (c : ℕ) (l : List ℕ) → mem c (up_to c l) ≡ false
unfolding mem
up_to-none c [] = refl
up_to-none c (b ∷ l) = by (eqb c b) refl (up_to-none c l)
  where
    by : (t : Bool) → eqb c b ≡ t → mem c (up_to c l) ≡ false → mem c (up_to c (b ∷ l)) ≡ false
    by true e f = rw (up_to-stop c b l e)
    by false e f = rw (up_to-more c b l e, e) f

pub up_to-all : (c : ℕ) (l : List ℕ) → mem c l ≡ false → up_to c l ≡ l
up_to-all c [] n = refl
up_to-all c (b ∷ l) n =
    up_to-more c b l (eqb_swap c b ∙ not-head c b l n) ∙ ap (λ (t : List ℕ). b ∷ t) (up_to-all c l (not-tail c b l n))

-- what stands from the first c on begins with it, or is nothing
pub up_to-end : (c : ℕ) (l : List ℕ) → up_to c (drop (length (up_to c l)) l) ≡ []
up_to-end c [] = refl
up_to-end c (b ∷ l) =
    bool_cases (eqb c b) _ (λ e. rw (up_to-stop c b l e) (up_to-stop c b l e)) (λ e. rw (up_to-more c b l e) (up_to-end c l))

pub up_to-over : (c : ℕ) (a l : List ℕ) → mem c a ≡ false → up_to c (a ++ l) ≡ a ++ up_to c l
up_to-over c [] l n = refl
up_to-over c (b ∷ a) l n =
    up_to-more c b (a ++ l) (eqb_swap c b ∙ not-head c b a n) ∙ ap (λ (t : List ℕ). b ∷ t) (up_to-over c a l (not-tail c b a n))

-- the cut of a list that is given in two parts
pub mem-cut : (c : ℕ) (bs r : List ℕ) → mem c (bs ++ c ∷ r) ≡ true
unfolding mem
mem-cut c [] r = or-first (eqb c c) (mem c r) (eq-eqb c c refl)
mem-cut c (b ∷ bs) r = or-second (eqb c b) (mem c (bs ++ c ∷ r)) (mem-cut c bs r)

pub up_to-cut : (c : ℕ) (bs r : List ℕ) → mem c bs ≡ false → up_to c (bs ++ c ∷ r) ≡ bs
up_to-cut c [] r n = up_to-stop c c r (eq-eqb c c refl)
up_to-cut c (b ∷ bs) r n =
    up_to-more c b (bs ++ c ∷ r) (eqb_swap c b ∙ not-head c b bs n) ∙ ap (λ (t : List ℕ). b ∷ t) (up_to-cut c bs r (not-tail c b bs n))

pub past-cut : (c : ℕ) (bs r : List ℕ) → mem c bs ≡ false → past c (bs ++ c ∷ r) ≡ r
past-cut c [] r n = past_stop c c r (eq-eqb c c refl)
past-cut c (b ∷ bs) r n = past_more c b (bs ++ c ∷ r) (eqb_swap c b ∙ not-head c b bs n) ∙ past-cut c bs r (not-tail c b bs n)

pub up_to-take : (c : ℕ) (l : List ℕ) → take (length (up_to c l)) l ≡ up_to c l
up_to-take c [] = refl
up_to-take c (b ∷ l) = by (eqb c b) refl (up_to-take c l)
  where
    by : (t : Bool) → eqb c b ≡ t → take (length (up_to c l)) l ≡ up_to c l → take (length (up_to c (b ∷ l))) (b ∷ l) ≡ up_to c (b ∷ l)
    by true e f = rw (up_to-stop c b l e)
    by false e f = rw (up_to-more c b l e) (ap (λ (t : List ℕ). b ∷ t) f)

pub up_to-le : (c : ℕ) (l : List ℕ) → length (up_to c l) ≤ length l
up_to-le c [] = omega arith
up_to-le c (b ∷ l) = by (eqb c b) refl (up_to-le c l)
  where
    by : (t : Bool) → eqb c b ≡ t → length (up_to c l) ≤ length l → length (up_to c (b ∷ l)) ≤ length (b ∷ l)
    by true e f = rw (up_to-stop c b l e) (omega arith)
    by false e f = rw (up_to-more c b l e) (omega arith)

-- a byte in neither part, and in one part
pub mem-join : (c : ℕ) (a b : List ℕ) → mem c a ≡ false → mem c b ≡ false → mem c (a ++ b) ≡ false
unfolding mem
mem-join c [] b h k = k
mem-join c (x ∷ a) b h k = rw (eqb_swap c x ∙ not-head c x a h) (mem-join c a b (not-tail c x a h) k)

pub mem-left : (c : ℕ) (a b : List ℕ) → mem c (a ++ b) ≡ false → mem c a ≡ false
unfolding mem
mem-left c [] b n = refl
mem-left c (x ∷ a) b n = rw (eqb_swap c x ∙ not-head c x (a ++ b) n) (mem-left c a b (not-tail c x (a ++ b) n))

pub mem-right : (c : ℕ) (a b : List ℕ) → mem c (a ++ b) ≡ false → mem c b ≡ false
mem-right c [] b h = h
mem-right c (x ∷ a) b h = mem-right c a b (not-tail c x (a ++ b) h)

-- past the first part and the byte after it
pub drop_past : (s a b : List ℕ) (at d : ℕ) → drop at s ≡ a ++ d ∷ b → drop (at + length a + 1) s ≡ b
drop_past s a b at d e =
    let q : at + length a + 1 ≡ at + (length a + 1) = omega arith in
    ap (λ (k : ℕ). drop k s) q ∙ sym (drop-drop (length a + 1) at s) ∙ ap (drop (length a + 1)) e ∙ drop-append-add a (d ∷ b) 1

-- ---- the library's place of the first c, and its byte at a place
first-up_to : (c : ℕ) (l : List ℕ) → position_or_len (λ b. eqb b c) l ≡ length (up_to c l)
first-up_to c [] = refl
first-up_to c (b ∷ l) =
    bool_cases (eqb c b) _ (λ e. rw (up_to-stop c b l e, eqb_swap b c, e))
    (λ e. rw (up_to-more c b l e, eqb_swap b c, e, first-up_to c l) (omega arith))

pub end-first : (c : ℕ) (s rest : List ℕ) (from : ℕ) (o : Option ℕ) (n : ℕ) → rest ≡ take (length s - from) (drop from s)
    → o ≡ position (λ b. eqb b c) rest → n ≡ unwrap_or o (length rest) → from + n ≡ from + length (up_to c (drop from s))
end-first c s rest from o n e f g =
    let d : rest ≡ drop from s = e ∙ take_all (length s - from) (drop from s) (omega (arith, length-drop from s)) in
    let q : n ≡ position_or_len (λ b. eqb b c) rest = g ∙ ap (λ (k : Option ℕ). unwrap_or k (length rest)) f ∙ by in
    omega (arith, q ∙ first-up_to c rest ∙ ap (λ (l : List ℕ). length (up_to c l)) d)
  where
    by : unwrap_or (position (λ b. eqb b c) rest) (length rest) ≡ position_or_len (λ b. eqb b c) rest
    by =
        bool_cases (ltb (position_or_len (λ b. eqb b c) rest) (length rest)) _ (λ t. rw t)
        (λ t. rw t (omega (arith, ltb-false (position_or_len (λ b. eqb b c) rest) (length rest) t, first-up_to c rest, up_to-le c rest)))

pub has-get : (s : List ℕ) (at : ℕ) (o : Option (Bor ℕ)) (p : Bor ℕ) → is_some o ≡ ltb at (length s)
    → ((d : ℕ) → unwrap_or (option_map (λ x. x.now) o) d ≡ get_or s at d)
    → option_eq (λ x y. eqb x.now y.now) o (Some p) ≡ has_at s at p.now
unfolding has_at
has-get s at None p k h = rw (← k)
has-get s at (Some x) p k h = rw (← k, ← h 0)
