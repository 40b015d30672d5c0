-- A shelf over a folder, as contracts see it.
use Rattle.std.specs.Prelude.{ℕ, List}
use Rattle.file_shelf.specs.declared.adapters.StdFolder.{StdFolder}
use Rattle.file_shelf.specs.declared.shelf.FolderShelf.{FolderShelf}

abbrev pub path_of : StdFolder → List ℕ
path_of f = f.path.now

module _ {D : Type 0} where
  abbrev pub folder_of : FolderShelf D → D
  folder_of s = s.folder

  abbrev pub faults_of : FolderShelf D → ℕ
  faults_of s = s.faults
