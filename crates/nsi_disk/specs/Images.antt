-- The images of a disk in memory that was stopped.
use Rattle.std.specs.Prelude.{◌≡◌, ⊤, ℕ, ◌+◌, ◌≤◌, List, length, take, drop, replicate, Option, Some, None}
use Rattle.std.specs.Coded.{×_prop, Unit-prop, le_prop, Coded-set, coded_list, coded_ℕ}
use Rattle.nsi_disk.specs.Disk.{History, Fresh, Wrote, CutTo, Synced, Broke, seen, written}
use Rattle.nsi_disk.specs.declared.plan.Image.{Image}
use Rattle.nsi_disk.specs.declared.plan.Image.TheVariants.{Old, New, Torn}

-- what it read at its last sync
abbrev pub old_image : History → List ℕ
old_image (Fresh bytes) = bytes
old_image (Wrote at n now h) = old_image h
old_image (CutTo n now h) = old_image h
old_image (Synced h) = seen h
old_image (Broke now h) = old_image h

-- each byte that was written since reads 0xA5
abbrev pub torn_image : History → List ℕ
torn_image (Fresh bytes) = bytes
torn_image (Wrote at n now h) = written at (replicate n 165) (torn_image h)
torn_image (CutTo n now h) = take n (torn_image h)
torn_image (Synced h) = seen h
torn_image (Broke now h) = torn_image h

abbrev pub image_of : Image → History → List ℕ
image_of Old h = old_image h
image_of New h = seen h
image_of Torn h = torn_image h

-- a sync that was carried out tears nothing
abbrev pub synced_image : Image → Image
synced_image Old = Old
synced_image New = New
synced_image Torn = New

-- what a crash now leaves
abbrev pub shows : Option Image → History → List ℕ
shows None h = seen h
shows (Some image) h = image_of image h

-- the last call left this
abbrev pub leaving : List ℕ → History → History
leaving c (Fresh bytes) = Fresh bytes
leaving c (Wrote at n now h) = Wrote at n c h
leaving c (CutTo n now h) = CutTo n c h
leaving c (Synced h) = Synced h
leaving c (Broke now h) = Broke c h

-- stopped at its last call, or not
abbrev pub stopped_at : Option Image → History → History
stopped_at None h = h
stopped_at (Some image) h = leaving (image_of image h) h

-- each call did what it was to do
abbrev pub Made : History → Type 0
Made (Fresh bytes) = ⊤
Made (Wrote at n now h) = (at ≤ length (seen h)) × ((at + n ≤ length now) × ((now ≡ written at (take n (drop at now)) (seen h)) × Made h))
Made (CutTo n now h) = (n ≤ length (seen h)) × ((now ≡ take n (seen h)) × Made h)
Made (Synced h) = Made h
Made (Broke now h) = (now ≡ seen h) × Made h

pub Made-prop : (h : History) → IsProp (Made h)
Made-prop (Fresh bytes) = Unit-prop
Made-prop (Wrote at n now h) = ×_prop le_prop (×_prop le_prop (×_prop (Coded-set (coded_list coded_ℕ) _ _) (Made-prop h)))
Made-prop (CutTo n now h) = ×_prop le_prop (×_prop (Coded-set (coded_list coded_ℕ) _ _) (Made-prop h))
Made-prop (Synced h) = Made-prop h
Made-prop (Broke now h) = ×_prop (Coded-set (coded_list coded_ℕ) _ _) (Made-prop h)
