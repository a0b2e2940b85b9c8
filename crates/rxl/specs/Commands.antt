-- The commands, and the arguments that ask for them.
use Rattle.std.specs.Prelude.{◌≡◌, ℕ, List, [], ◌∷◌, map, codes}
use Rattle.std.specs.Borrow.{Bor}
use Rattle.rxl.specs.declared.command.Command.{Command}
use Rattle.rxl.specs.declared.command.Command.TheVariants.{Ask, Escape}
use Rattle.rxl.specs.declared.command.Question.TheVariants.{IsMatch, Find, Captures, Split, Replace}

-- the words of a command
abbrev pub words : Command → List (List ℕ)
words (Ask IsMatch pattern) = codes "is-match" ∷ pattern.now ∷ []
words (Ask Find pattern) = codes "find" ∷ pattern.now ∷ []
words (Ask Captures pattern) = codes "captures" ∷ pattern.now ∷ []
words (Ask Split pattern) = codes "split" ∷ pattern.now ∷ []
words (Ask (Replace text) pattern) = codes "replace" ∷ pattern.now ∷ text.now ∷ []
words (Escape text) = codes "escape" ∷ text.now ∷ []

-- the arguments ask for the command
abbrev pub Asks : (args : List (Bor (List ℕ))) → Command → Type 0
Asks args command = map (λ arg. arg.now) args ≡ words command

-- the arguments ask for no command
abbrev pub AskForNone : (args : List (Bor (List ℕ))) → Type 0
AskForNone args = (command : Command) → Asks args command → ⊥
