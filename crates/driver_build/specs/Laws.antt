-- What holds of all clean folders.
use Rattle.std.specs.Prelude.{◌≡◌, List}
use Rattle.drv_outside.specs.TreeState.{Folder}
use Rattle.swift_ast.specs.declared.declarations.FileTree.{FileTree}
use Rattle.driver_build.specs.Wanted.{Wanted}
use Rattle.driver_build.specs.CleanFolder.{IsCleanFolder}

abbrev pub CleanFolderIsOne : Type 0
CleanFolderIsOne = (wanted : Wanted) (trees : List FileTree) (one other : Folder) → IsCleanFolder wanted trees one → IsCleanFolder wanted trees other → one ≡ other
