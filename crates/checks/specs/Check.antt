-- The check of bytes. Assumes nothing.
use Rattle.std.specs.Prelude.{List, [], ◌∷◌, ℕ, ◌+◌, ◌*◌, ◌%◌}

-- h starts at 1, and each byte b makes it (65599 h + b) mod 4294967291
abbrev pub mixed : ℕ → ℕ → ℕ
mixed h b = (65599 * h + b) % 4294967291

unfoldable pub check_from : ℕ → List ℕ → ℕ
check_from h [] = h
check_from h (b ∷ bytes) = check_from (mixed h b) bytes
