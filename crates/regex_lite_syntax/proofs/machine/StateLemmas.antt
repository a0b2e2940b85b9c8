-- The parser's lists after a push, and the characters that an index stands before.
use Rattle.regex_lite_syntax.proofs.Common.{◌≡◌, List, [], ◌∷◌, ◌++◌, map, reverse, length, refl}
use Rattle.regex_lite_syntax.proofs.Common.{ap, ◌∙◌, arith}
use Rattle.std.proofs.lemmas.List.{map_push, reverse-append}

pub map_pushed : {X Y : Type 0} (f : X → Y) (new old : List X) (x : X) → new ≡ old ++ x ∷ []
    → map f new ≡ map f old ++ f x ∷ []
map_pushed f new old x e = ap (map f) e ∙ map_push f old x

pub reverse_pushed : {X Y : Type 0} (f : X → Y) (new old : List X) (x : X) → new ≡ old ++ x ∷ []
    → reverse (map f new) ≡ f x ∷ reverse (map f old)
reverse_pushed f new old x e =
    ap reverse (map_pushed f new old x e) ∙ reverse-append (map f old) (f x ∷ [])

pub none_left : {X : Type 0} (xs : List X) → length xs ≡ 0 → xs ≡ []
none_left [] e = refl
none_left (x ∷ xs) e = absurd (omega (arith, e))
