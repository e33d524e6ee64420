-- Parts of a log.
use Rattle.std.specs.Prelude.{List}
use Rattle.std.specs.List.{flat_map}
use Rattle.wal_log.specs.Runs.{LogPage}
use Rattle.log_directory.specs.PagesRead.{file_pages}
use Rattle.log_directory.specs.declared.pages_read.PagesRead.{PagesRead}

-- the pages of a part
abbrev pub pages_read : PagesRead → List LogPage
pages_read part = flat_map file_pages part.files.items
