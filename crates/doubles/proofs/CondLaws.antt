-- The two cases of a condition, and what it picks. Assumes nothing.
use mathlib.Core.Path.{◌≡◌, refl}
use mathlib.Core.Bool.{Bool, true, false, cond}

pub by_cases : {P : Type 0} (b : Bool) → (b ≡ true → P) → (b ≡ false → P) → P
by_cases true f g = f refl
by_cases false f g = g refl

-- what holds of both holds of the one that the condition picks
pub cond_of : {A : Type 0} (P : A → Type 0) (b : Bool) {x y : A} → P x → P y → P (cond b x y)
cond_of P true p q = p
cond_of P false p q = q

-- what holds of each where the condition picks it
pub cond_by : {A : Type 0} (P : A → Type 0) (b : Bool) {x y : A} → (b ≡ true → P x) → (b ≡ false → P y) → P (cond b x y)
cond_by P true f g = f refl
cond_by P false f g = g refl

-- the same is picked where both are the same
pub cond_same : {A : Type 0} (b : Bool) {x y x' y' : A} → (b ≡ true → x ≡ x') → (b ≡ false → y ≡ y')
    → cond b x y ≡ cond b x' y'
cond_same true f g = f refl
cond_same false f g = g refl
