-- Change K3: "printed as the shortest plain decimal": the bytes of a number of millionths.
use Rattle.std.specs.Prelude.{ℕ, zero, suc, ◌+◌, ◌/◌, ◌%◌, ◌^◌, true, false, List, [], ◌∷◌, ◌++◌, eqb}
use Rattle.text.specs.Bytes.{zero_digit, point_mark}
use Rattle.text.specs.Weight.{most_places, million}
use Rattle.write.specs.Number.{count_text}

-- the digits behind the point of r / 10 ^ k, where r is below 10 ^ k: one after the other as long as something is left, so no 0 at the end
unfoldable pub places_text : ℕ → ℕ → List ℕ
places_text zero r = []
places_text (suc k) r = elim (eqb r 0) [ true ↦ [] | false ↦ (zero_digit + r / 10 ^ k) ∷ places_text k (r % 10 ^ k) ]

-- r millionths behind a whole part: nothing where they are 0, else the point and their digits
unfoldable pub behind_text : ℕ → List ℕ
behind_text r = elim (eqb r 0) [ true ↦ [] | false ↦ point_mark ∷ places_text most_places r ]

-- "the shortest plain decimal" of z millionths
unfoldable pub millionths_text : ℕ → List ℕ
millionths_text z = count_text (z / million) ++ behind_text (z % million)
