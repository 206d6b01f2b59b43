-- What is so of merged texts and images, whatever the order of the texts of which they are made.
use Rattle.std.specs.Prelude.{◌≡◌, ℕ, List}
use Rattle.std.specs.List.Sorted.{IsPermutation}
use Rattle.module_merge.specs.Module.{IsMergedModule}
use Rattle.module_merge.specs.Image.{IsImage, AreDistinct, AreLinked, all_defined}
use Rattle.module_merge.specs.Ends.{IsEnd}
use Rattle.module_merge.specs.declared.ends.MergeEnd.{MergeEnd}

-- Partial texts have one merged text and no other.
abbrev pub MergedTextIsOne : Type 0
MergedTextIsOne = (name : List ℕ) (partials : List (List ℕ)) (one other : List ℕ) → IsMergedModule name partials one → IsMergedModule name partials other → one ≡ other

-- The merged text of partial texts is that of the same texts in any order.
abbrev pub MergedTextIsOfAnyOrder : Type 0
MergedTextIsOfAnyOrder = (name : List ℕ) (partials others : List (List ℕ)) (text : List ℕ) → IsPermutation partials others → IsMergedModule name partials text → IsMergedModule name others text

-- Object texts have one image and no other.
abbrev pub ImageIsOne : Type 0
ImageIsOne = (name : List ℕ) (objects : List (List ℕ)) (one other : List ℕ) → IsImage name objects one → IsImage name objects other → one ≡ other

-- The image of object texts that define no symbol twice is that of the same texts in any order.
abbrev pub ImageIsOfAnyOrder : Type 0
ImageIsOfAnyOrder = (name : List ℕ) (objects others : List (List ℕ)) (text : List ℕ) → IsPermutation objects others → AreDistinct (all_defined objects) → IsImage name objects text → IsImage name others text

-- Object texts that can be linked can be linked in any order.
abbrev pub LinkingIsOfAnyOrder : Type 0
LinkingIsOfAnyOrder = (objects others : List (List ℕ)) → IsPermutation objects others → AreDistinct (all_defined objects) → AreLinked objects → AreDistinct (all_defined others) × AreLinked others

-- What keeps object texts from being linked does so in any order.
abbrev pub EndIsOfAnyOrder : Type 0
EndIsOfAnyOrder = (objects others : List (List ℕ)) (end : MergeEnd) → IsPermutation objects others → IsEnd objects end → IsEnd others end
