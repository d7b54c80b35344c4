-- Steps one after the other: what a chain gives, by what its parts give.
use Rattle.std.proofs.Common.{◌≡◌, List, [], ◌++◌, Result, Ok, Err, IfOk, refl, sym, ap, append_assoc}
use Rattle.osm_objects.specs.declared.fault.ObjectFault.{ObjectFault}
use Rattle.osm_objects.specs.Steps.{◌>>=◌}
use Rattle.osm_objects.specs.Answers.{after}

pub bind_assoc : {A B C : Type 0} (r : Result A ObjectFault) (f : A → Result B ObjectFault) (g : B → Result C ObjectFault) → ((r >>= f) >>= g) ≡ (r >>= λ x. f x >>= g)
bind_assoc (Ok x) f g = refl
bind_assoc (Err d) f g = refl

pub bind_same : {A B : Type 0} (r : Result A ObjectFault) (f g : A → Result B ObjectFault) → ((x : A) → f x ≡ g x) → (r >>= f) ≡ (r >>= g)
bind_same (Ok x) f g same = same x
bind_same (Err d) f g same = refl

pub bind_ok : {A : Type 0} (r : Result A ObjectFault) → (r >>= λ x. Ok x) ≡ r
bind_ok (Ok x) = refl
bind_ok (Err d) = refl

-- the first part gives this; the first part has a fault
pub bind_is : {A B : Type 0} (r : Result A ObjectFault) (x : A) (f : A → Result B ObjectFault) → r ≡ Ok x → (r >>= f) ≡ f x
bind_is r x f e = ap (λ q. q >>= f) e

pub bind_stop : {A B : Type 0} (r : Result A ObjectFault) (d : ObjectFault) (f : A → Result B ObjectFault) → r ≡ Err d → (r >>= f) ≡ Err d
bind_stop r d f e = ap (λ q. q >>= f) e

-- what is given is so, whatever the first part gives; what is given is so, by what the first part gives
pub bind_any : {A B : Type 0} (P : B → Type 0) (r : Result A ObjectFault) (f : A → Result B ObjectFault) → ((x : A) → IfOk (f x) P) → IfOk (r >>= f) P
bind_any P (Ok x) f each = each x
bind_any P (Err d) f each = tt

pub bind_known : {A B : Type 0} (P : A → Type 0) (Q : B → Type 0) (r : Result A ObjectFault) (f : A → Result B ObjectFault) → IfOk r P → ((x : A) → P x → IfOk (f x) Q) → IfOk (r >>= f) Q
bind_known P Q (Ok x) f known each = each x known
bind_known P Q (Err d) f known each = tt

-- lists behind lists
pub after_nil : {A : Type 0} (given : Result (List A) ObjectFault) → after [] given ≡ given
after_nil (Ok xs) = refl
after_nil (Err d) = refl

pub after_after : {A : Type 0} (xs ys : List A) (given : Result (List A) ObjectFault) → after xs (after ys given) ≡ after (xs ++ ys) given
after_after xs ys (Ok zs) = ap (λ l. Ok l) (sym (append_assoc xs ys zs))
after_after xs ys (Err d) = refl
