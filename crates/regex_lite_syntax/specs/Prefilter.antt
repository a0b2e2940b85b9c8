-- Where a match can begin, by the next characters.
pub mod FirstSet
pub mod PrefixSets
pub mod Rows
pub mod Pairs
pub mod PrefixIndex
pub mod ThirdMasks
pub mod Bytes
-- Words with which matches begin, and how they are found.
pub mod Words
pub mod WholeWords
pub mod NumberedWords
pub mod WordLists
pub mod Spelling
pub mod WordWalk
pub mod Shifts
pub mod Finders
pub mod Marks
-- A word that each match has, and how it is found.
pub mod Needed
pub mod NeededWalk
-- The characters and the words together.
pub mod StartFacts
