-- Laws of rising lists as sets: a list that rises after a test of its first member, and two rising lists with the same members.
-- Assumes nothing.
use Prim.Native.Nat.{ℕ, ◌<◌}
use mathlib.Core.Path.{◌≡◌, refl, sym, ap, ap₂, ◌∙◌}
use mathlib.Core.Logic.{⊎_elim}
use mathlib.Core.Bool.{Bool, true, false, ◌&&◌}
use mathlib.Core.List.{List, [], ◌∷◌, ◌++◌}
use native.Mathlib.Omega.{arith}
use lib.Dec.{eqb, ltb}
use borrow.Author.Tests.{eqb-true, ltb-true, lt-ltb}
use Rattle.basis.specs.Order.{above_by, rising}
use Rattle.basis.specs.Scan.{mem}
use Rattle.basis.proofs.Tests.{false_of, and_first, and_second, and_both}
use Rattle.basis.proofs.Scans.{mem-none-of, mem-head, mem-tail, mem-cases}

-- the list rises, and t holds of its first member
abbrev pub starts : (ℕ → Bool) → List ℕ → Bool
starts t [] = true
starts t (x ∷ l) = t x && starts (ltb x) l

above-starts : (x : ℕ) (l : List ℕ) → above_by ltb x l ≡ starts (ltb x) l
above-starts x [] = refl
above-starts x (y ∷ l) = ap (λ (s : Bool). ltb x y && s) (above-starts y l)

pub rising-starts : (l : List ℕ) → rising l ≡ starts (λ i. true) l
rising-starts [] = refl
rising-starts (x ∷ l) = above-starts x l

-- what follows x in a rising list is above it
starts-above : (x w : ℕ) (l : List ℕ) → starts (ltb x) l ≡ true → mem w l ≡ true → x < w
starts-above x w [] s h = absurd (mem-none-of w h)
starts-above x w (y ∷ l) s h =
    let a : x < y = ltb-true x y (and_first (ltb x y) (starts (ltb y) l) s) in
    ⊎_elim (λ e. rw e a) (λ m. let b = starts-above y w l (and_second (ltb x y) (starts (ltb y) l) s) m in omega arith) (mem-cases w y l h)

-- x is not among what follows it
not_after : (x : ℕ) (l : List ℕ) → starts (ltb x) l ≡ true → mem x l ≡ false
not_after x l s = false_of (mem x l) (λ h. let a = starts-above x x l s h in omega arith)

same_rest : (x w : ℕ) (a b : List ℕ) → starts (ltb x) a ≡ true → starts (ltb x) b ≡ true → mem w (x ∷ a) ≡ mem w (x ∷ b) → (t : Bool)
    → eqb w x ≡ t → mem w a ≡ mem w b
unfolding mem
same_rest x w a b r s k true f = rw (eqb-true w x f) (not_after x a r ∙ sym (not_after x b s))
same_rest x w a b r s k false f = rw f at k

-- two rising lists with the same members are the same
pub starts-same : (t u : ℕ → Bool) (a b : List ℕ) → starts t a ≡ true → starts u b ≡ true → ((w : ℕ) → mem w a ≡ mem w b) → a ≡ b
starts-same t u [] [] p q h = refl
starts-same t u [] (y ∷ b) p q h = absurd (mem-none-of y (h y ∙ mem-head y b))
starts-same t u (x ∷ a) [] p q h = absurd (mem-none-of x (sym (h x) ∙ mem-head x a))
starts-same t u (x ∷ a) (y ∷ b) p q h =
    let r : starts (ltb x) a ≡ true = and_second (t x) (starts (ltb x) a) p in
    let s : starts (ltb y) b ≡ true = and_second (u y) (starts (ltb y) b) q in
    let e : x ≡ y =
    ⊎_elim (λ e. e)
    (λ m. ⊎_elim sym (λ k. let i = starts-above y x b s m in let j = starts-above x y a r k in absurd (omega arith))
    (mem-cases y x a (h y ∙ mem-head y b)))
    (mem-cases x y b (sym (h x) ∙ mem-head x a)) in
    let s' : starts (ltb x) b ≡ true = rw e s in
    ap₂ (λ (v : ℕ) (l : List ℕ). v ∷ l) e (starts-same (ltb x) (ltb x) a b r s'
    (λ w. same_rest x w a b r s' (h w ∙ ap (λ (v : ℕ). mem w (v ∷ b)) (sym e)) (eqb w x) refl))

-- one more member, above all
pub starts-snoc : (t : ℕ → Bool) (l : List ℕ) (n : ℕ) → starts t l ≡ true → ((w : ℕ) → mem w l ≡ true → w < n) → t n ≡ true
    → starts t (l ++ (n ∷ [])) ≡ true
starts-snoc t [] n s f h = and_both h refl
starts-snoc t (x ∷ l) n s f h =
    and_both (and_first (t x) (starts (ltb x) l) s)
    (starts-snoc (ltb x) l n (and_second (t x) (starts (ltb x) l) s) (λ w m. f w (mem-tail w x l m)) (lt-ltb x n (f x (mem-head x l))))
