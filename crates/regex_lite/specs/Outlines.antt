-- A pattern part by part, as a builder returns it.
use Rattle.std.specs.Prelude.{◌≡◌, List, chars}
use Rattle.regex_lite_syntax.specs.declared.error.Error.{Error}
use Rattle.regex_lite_syntax.specs.declared.hir.outline.Part.{Part}
use Rattle.regex_lite_syntax.specs.Errors.{kind_of}
use Rattle.regex_lite_syntax.specs.Limits.{IsDueToPattern}
use Rattle.regex_lite_syntax.specs.Tree.{Tree}
use Rattle.regex_lite_syntax.specs.Tree.Outline.{outline}
use Rattle.regex_lite.specs.Expression.{IsReadAs}
use Rattle.regex_lite.specs.Settings.{Settings}

-- under these settings the grammar gives the pattern a tree, which exceeds neither the limit on
-- nesting nor that on the number of groups
abbrev pub IsReadable : Settings → Type 0
IsReadable settings = (tree : Tree) × IsReadAs settings tree

-- the pattern has such a tree, and these are its parts
abbrev pub AreParts : Settings → List Part → Type 0
AreParts settings parts = (tree : Tree) × IsReadAs settings tree × (parts ≡ outline tree)

-- what the error says of the pattern under these settings is true: it can't be parsed
abbrev pub IsDueOnReading : Settings → Error → Type 0
IsDueOnReading settings error =
    IsDueToPattern settings.flags settings.nest_limit (chars settings.pattern) (kind_of error)
