-- Laws of the text of a count. Assumes nothing.
use Prim.Native.Nat.{ℕ, zero, suc, ◌+◌, ◌*◌, ◌/◌, ◌%◌, ◌≤◌, ◌<◌}
use mathlib.Core.Path.{◌≡◌, refl, sym, ap, ◌∙◌}
use mathlib.Core.List.{List, [], ◌∷◌, ◌++◌}
use native.Mathlib.Omega.{arith}
use borrow.Author.Tests.{lt-ltb, le-ltb, ltb-true, ltb-false}
use lib.Dec.{ltb}
use Rattle.basis.proofs.Tests.{bool_cases}
use Rattle.write.specs.Put.{written, put_at}
use Rattle.write.specs.Number.{digits, count_text}
use Rattle.write.proofs.Puts.{put_then, put_as}

-- ---- any two cuts that are not below the number give the same digits
digits-small : (k n : ℕ) → n < 10 → digits k n ≡ (48 + n) ∷ []
unfolding digits
digits-small zero n h = refl
digits-small (suc k) n h = rw (lt-ltb n 10 h, digits)

digits_more : (k n : ℕ) → 10 ≤ n → digits (suc k) n ≡ digits k (n / 10) ++ ((48 + n % 10) ∷ [])
unfolding digits
digits_more k n h = rw (le-ltb n 10 h, digits)

digits-cut : (k j n : ℕ) → n ≤ k → n ≤ j → digits k n ≡ digits j n
digits-cut zero j n h g = digits-small zero n (omega arith) ∙ sym (digits-small j n (omega arith))
digits-cut (suc k) zero n h g = digits-small (suc k) n (omega arith) ∙ sym (digits-small zero n (omega arith))
digits-cut (suc k) (suc j) n h g =
    bool_cases (ltb n 10) (digits (suc k) n ≡ digits (suc j) n)
    (λ e. digits-small (suc k) n (ltb-true n 10 e) ∙ sym (digits-small (suc j) n (ltb-true n 10 e)))
    (λ e. let m : 10 ≤ n = ltb-false n 10 e in
    digits_more k n m ∙ ap (λ l. l ++ ((48 + n % 10) ∷ [])) (digits-cut k j (n / 10) (omega arith) (omega arith)) ∙ sym (digits_more j n m))

-- ---- a number below 10 is its digit; another one is the digits of n / 10 and the digit of n % 10
pub count_small : (n : ℕ) → n < 10 → count_text n ≡ (48 + n) ∷ []
unfolding count_text
count_small n h = digits-small n n h

pub count-more : (n : ℕ) → 10 ≤ n → count_text n ≡ count_text (n / 10) ++ ((48 + n % 10) ∷ [])
unfolding count_text
count-more zero h = absurd (omega arith)
count-more (suc k) h =
    digits_more k (suc k) h ∙ ap (λ l. l ++ ((48 + suc k % 10) ∷ [])) (digits-cut k (suc k / 10) (suc k / 10) (omega arith) (omega arith))

-- ---- what holds of each digit, and stays when one is written behind, holds of the text
pub count-all {ℓ} : (P : ℕ → List ℕ → Type ℓ) → ((n : ℕ) → n < 10 → P n ((48 + n) ∷ []))
    → ((n d : ℕ) (l : List ℕ) → 1 ≤ n → d < 10 → P n l → P (n * 10 + d) (l ++ ((48 + d) ∷ []))) → (n : ℕ) → P n (count_text n)
count-all P small more n = up_to n n (omega arith)
  where
    up_to : (k n : ℕ) → n ≤ k → P n (count_text n)
    up_to zero n h = rw (count_small n (omega arith)) (small n (omega arith))
    up_to (suc k) n h =
        bool_cases (ltb n 10) (P n (count_text n))
        (λ e. rw (count_small n (ltb-true n 10 e)) (small n (ltb-true n 10 e)))
        (λ e. let g : 10 ≤ n = ltb-false n 10 e in
        let q : n / 10 * 10 + n % 10 ≡ n = omega arith in
        rw (count-more n g)
        (rw q at (more (n / 10) (n % 10) (count_text (n / 10)) (omega arith) (omega arith) (up_to k (n / 10) (omega arith)))))

-- ---- the writer of a count
module _ (n d : ℕ) (o : List ℕ) (at : ℕ) {o' : List ℕ} {p : ℕ} where
  pub number_small : n < 10 → d ≡ 48 + n → written o' p ≡ put_at o at (d ∷ []) → written o' p ≡ put_at o at (count_text n)
  number_small h e x = put_as o at (d ∷ []) x (count_text n) (ap (λ k. k ∷ []) e ∙ sym (count_small n h))

  pub number_more : {o'' : List ℕ} {r : ℕ} → 10 ≤ n → d ≡ 48 + n % 10
      → written o' p ≡ put_at o at (count_text (n / 10)) → written o'' r ≡ put_at o' p (d ∷ []) → written o'' r ≡ put_at o at (count_text n)
  number_more h e x y =
      put_as o at (count_text (n / 10) ++ (d ∷ [])) (put_then o at (count_text (n / 10)) x (d ∷ []) y) (count_text n)
      (ap (λ k. count_text (n / 10) ++ (k ∷ [])) e ∙ sym (count-more n h))
