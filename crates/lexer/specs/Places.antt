-- What a lexer holds. Assumes nothing.
use Rattle.std.specs.Prelude.{ℕ, List}
use Rattle.lexer.specs.declared.Lexer.{Lexer}

abbrev pub text_of : Lexer → List ℕ
text_of l = l.text.now

-- where the next token is looked for
abbrev pub place_of : Lexer → ℕ
place_of l = l.place

-- where the token last read stands
abbrev pub start_of : Lexer → ℕ
start_of l = l.start
