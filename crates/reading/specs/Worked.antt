-- Sheets worked through (document 01), as tables. `Rows` proves each by one computed statement.
use Rattle.std.specs.Prelude.{List, [], ◌∷◌, ◌++◌}
use Rattle.reading.specs.declared.Line.{Line}
use Rattle.reading.specs.Events.{event, homed, in_text}
use Rattle.reading.specs.Sheets.{Row, span, at_home, on, given, one_line, looking_at, refused_at}

-- marked P
unfoldable pub worked : List Row
worked =
    given "" [] 0 [] ""
    ∷ looking_at 1 (one_line "*a*" (event 38 0 1 ∷ event 1 1 2 ∷ event 70 2 3 ∷ []) "")
    ∷ looking_at 1 (one_line "**" (event 1 0 2 ∷ []) "")
    ∷ one_line "`" (event 40 0 1 ∷ event 72 1 1 ∷ []) ""
    ∷ one_line "::" (homed 13 (in_text 1 1) 0 2 ∷ []) ""
    ∷ one_line "[^]" (homed 14 (in_text 2 2) 0 3 ∷ []) ""
    ∷ one_line "-----" (event 8 0 3 ∷ event 7 3 5 ∷ []) ""
    ∷ one_line "-------" (event 8 0 3 ∷ event 7 3 5 ∷ event 7 5 7 ∷ []) ""
    ∷ one_line "..." (event 6 0 3 ∷ []) ""
    ∷ looking_at 2 (one_line "[a](b)" (homed 46 (at_home 1 4 5 0) 0 1 ∷ event 1 1 2 ∷ homed 78 (at_home 1 4 5 0) 2 6 ∷ []) "")
    ∷ looking_at 2 (one_line "[a][]" (homed 44 (at_home 2 0 1 0) 0 1 ∷ event 1 1 2 ∷ homed 76 (at_home 2 0 1 0) 2 5 ∷ []) "a")
    ∷ one_line "`` `a` ``" (event 40 0 2 ∷ event 1 3 6 ∷ event 72 7 9 ∷ []) ""
    ∷ one_line "a{b}" (event 1 0 4 ∷ []) ""
    ∷ []

-- the blanks that each of them drops: of one alone two
unfoldable pub worked_blanks : List (List Line)
worked_blanks = [] ∷ [] ∷ [] ∷ [] ∷ [] ∷ [] ∷ [] ∷ [] ∷ [] ∷ [] ∷ [] ∷ (span 2 3 ∷ span 6 7 ∷ []) ∷ [] ∷ []

-- not marked P. In the last but two the inner link is dropped: the outer one has number 1, and both labels stand in the room
unfoldable pub others : List Row
others =
    one_line "...." (event 6 0 3 ∷ event 1 3 4 ∷ []) ""
    ∷ looking_at 1 (one_line "[a](b" (event 1 0 5 ∷ []) "")
    ∷ one_line "`{`" (event 40 0 1 ∷ event 1 1 2 ∷ event 72 2 3 ∷ []) ""
    ∷ given "`a\nb\\`" (span 0 3 ∷ span 3 6 ∷ []) 0 (on 0 (event 40 0 1 ∷ event 1 1 6 ∷ []) ++ on 1 (event 72 6 6 ∷ [])) ""
    ∷ given "`a\nb\\`" (span 0 3 ∷ span 3 6 ∷ []) 1 (on 0 (event 40 0 1 ∷ event 1 1 5 ∷ []) ++ on 1 (event 72 5 6 ∷ [])) ""
    ∷ looking_at 3 (given "[a](b\n> c)" (span 0 6 ∷ span 8 10 ∷ []) 0 (on 0 (homed 46 (at_home 2 0 2 0) 0 1 ∷ event 1 1 2 ∷ homed 78 (at_home 2 0 2 0) 2 10 ∷ [])) "bc")
    ∷ looking_at 7
    (given "[a](x[b](c\n> d)e)" (span 0 11 ∷ span 13 17 ∷ []) 0
    (on 0 (homed 46 (at_home 2 2 13 1) 0 1 ∷ event 1 1 2 ∷ homed 78 (at_home 2 2 13 1) 2 17 ∷ [])) "cdx[b](c> d)e")
    ∷ one_line "```````````````````````````````````````````````````````````````````````````````````````````````````````````````````````````````````````````````````````````````````````````````````````````````````````````````````````````````````````````````````````````````" (event 40 0 255 ∷ event 72 255 255 ∷ []) ""
    ∷ one_line "````````````````````````````````````````````````````````````````````````````````````````````````````````````````````````````````````````````````````````````````````````````````````````````````````````````````````````````````````````````````````````````````" (event 1 0 256 ∷ []) ""
    ∷ []

-- a backslash straight after a closing run (document 02, L6): before a star, and before braces, that of a block among them; and a raw format, which stands
-- directly behind the run
unfoldable pub behind_runs : List Row
behind_runs =
    looking_at 1 (given "`a`\\*b*" (span 0 7 ∷ []) 0 (on 0 (event 40 0 1 ∷ event 1 1 2 ∷ event 72 2 3 ∷ event 4 3 4 ∷ event 38 4 5 ∷ event 1 5 6 ∷ event 70 6 7 ∷ [])) "")
    ∷ given "`a`\\*b*" (span 0 7 ∷ []) 1 (on 0 (event 40 0 1 ∷ event 1 1 2 ∷ event 72 2 3 ∷ event 4 3 4 ∷ event 1 4 7 ∷ [])) ""
    ∷ refused_at "`a`\\{.b}" (span 0 8 ∷ []) 0 4
    ∷ given "`a`\\{.b}" (span 0 8 ∷ []) 1 (on 0 (event 40 0 1 ∷ event 1 1 2 ∷ event 72 2 3 ∷ event 4 3 4 ∷ event 1 4 8 ∷ [])) ""
    ∷ refused_at "`a`{.b}" (span 0 7 ∷ []) 1 3
    ∷ looking_at 1 (given "`a`\\{=h=}" (span 0 9 ∷ []) 0 (on 0 (event 40 0 1 ∷ event 1 1 2 ∷ event 72 2 3 ∷ event 4 3 4 ∷ event 39 4 6 ∷ event 1 6 7 ∷ event 71 7 9 ∷ [])) "")
    ∷ given "`a`\\{=h=}" (span 0 9 ∷ []) 1 (on 0 (event 40 0 1 ∷ event 1 1 2 ∷ event 72 2 3 ∷ event 4 3 4 ∷ event 1 4 9 ∷ [])) ""
    ∷ given "`a`{=h}" (span 0 7 ∷ []) 1 (on 0 (homed 41 (in_text 5 6) 0 1 ∷ event 1 1 2 ∷ homed 73 (in_text 5 6) 2 7 ∷ [])) ""
    ∷ given "`a\n`\\*b*" (span 0 3 ∷ span 3 8 ∷ []) 0 (on 0 (event 40 0 1 ∷ event 1 1 3 ∷ []) ++ on 1 (event 72 3 4 ∷ event 4 4 5 ∷ event 1 5 8 ∷ [])) ""
    ∷ []

-- braces (document 02, L2): lone ones are Str; where a block stands the sheet is refused. Over two lines what lies between them is not fed: in the first of
-- two such sheets it would not let the block end, in the second it would end it
unfoldable pub braces : List Row
braces =
    one_line "{" (event 1 0 1 ∷ []) ""
    ∷ refused_at "{}" (span 0 2 ∷ []) 0 0
    ∷ refused_at "{.a}" (span 0 4 ∷ []) 0 0
    ∷ refused_at "{.a}" (span 0 4 ∷ []) 1 0
    ∷ one_line "{door" (event 1 0 5 ∷ []) ""
    ∷ given "{door" (span 0 5 ∷ []) 1 (on 0 (event 1 0 5 ∷ [])) ""
    ∷ refused_at "{a=\"\n$%\"}" (span 0 5 ∷ span 7 9 ∷ []) 0 0
    ∷ given "{a=\"\n\"}b" (span 0 5 ∷ span 7 8 ∷ []) 0 (on 0 (event 1 0 3 ∷ event 12 3 4 ∷ event 2 4 5 ∷ []) ++ on 1 (event 1 7 8 ∷ [])) ""
    ∷ one_line "{%" (event 1 0 2 ∷ []) ""
    ∷ refused_at "{a=\"\\\"}\"}" (span 0 9 ∷ []) 0 0
    ∷ one_line "`{.a}`" (event 40 0 1 ∷ event 1 1 5 ∷ event 72 5 6 ∷ []) ""
    ∷ looking_at 1 (one_line "*a*{" (event 38 0 1 ∷ event 1 1 2 ∷ event 70 2 3 ∷ event 1 3 4 ∷ []) "")
    ∷ refused_at "*a*{.b}" (span 0 7 ∷ []) 0 3
    ∷ looking_at 3 (one_line "[a](b{c)" (homed 46 (at_home 1 4 7 0) 0 1 ∷ event 1 1 2 ∷ homed 78 (at_home 1 4 7 0) 2 8 ∷ []) "")
    ∷ refused_at "[a](b{.c})" (span 0 10 ∷ []) 0 5
    ∷ []

-- How long the search gets. A token that closes nothing looks at all openers: brackets, `|`, `}`, softbreaks, escapes, no-break spaces, hard breaks, one hyphen
-- and more, periods, a lone brace; what a scan takes does not, nor does a run that opens a verbatim or what stands within it. A mark looks back to the newest
-- that it closes, also where that may not close; what is discarded is looked at no more. The last is the longest that 40 bytes have
unfoldable pub searches : List Row
searches =
    one_line "*a" (event 1 0 2 ∷ []) ""
    ∷ looking_at 1 (one_line "*[" (event 1 0 2 ∷ []) "")
    ∷ looking_at 1 (one_line "*(" (event 1 0 2 ∷ []) "")
    ∷ looking_at 1 (one_line "*|" (event 1 0 2 ∷ []) "")
    ∷ looking_at 1 (one_line "*a}" (event 1 0 3 ∷ []) "")
    ∷ looking_at 1 (one_line "*a\n" (event 1 0 2 ∷ event 2 2 3 ∷ []) "")
    ∷ looking_at 1 (one_line "*\\*" (event 1 0 1 ∷ event 4 1 2 ∷ event 1 2 3 ∷ []) "")
    ∷ looking_at 2 (one_line "*\\ " (event 1 0 1 ∷ event 4 1 2 ∷ event 5 2 3 ∷ []) "")
    ∷ looking_at 2 (one_line "*a\\\nb" (event 1 0 2 ∷ event 4 2 3 ∷ event 3 3 4 ∷ event 1 4 5 ∷ []) "")
    ∷ looking_at 1 (one_line "*-" (event 1 0 2 ∷ []) "")
    ∷ looking_at 1 (one_line "*--" (event 1 0 1 ∷ event 7 1 3 ∷ []) "")
    ∷ looking_at 1 (one_line "*...." (event 1 0 1 ∷ event 6 1 4 ∷ event 1 4 5 ∷ []) "")
    ∷ looking_at 1 (one_line "*{" (event 1 0 2 ∷ []) "")
    ∷ one_line "*::" (event 1 0 1 ∷ homed 13 (in_text 2 2) 1 3 ∷ []) ""
    ∷ looking_at 1 (one_line "*:a" (event 1 0 3 ∷ []) "")
    ∷ one_line "*<a:b>" (event 1 0 1 ∷ homed 48 (in_text 2 5) 1 2 ∷ event 1 2 5 ∷ homed 80 (in_text 2 5) 5 6 ∷ []) ""
    ∷ looking_at 2 (one_line "*<a*" (event 38 0 1 ∷ event 1 1 3 ∷ event 70 3 4 ∷ []) "")
    ∷ one_line "*[^a]" (event 1 0 1 ∷ homed 14 (in_text 3 4) 1 5 ∷ []) ""
    ∷ looking_at 1 (one_line "[[^" (event 1 0 3 ∷ []) "")
    ∷ one_line "*```````````````````````````````````````````````````````````````````````````````````````````````````````````````````````````````````````````````````````````````````````````````````````````````````````````````````````````````````````````````````````````````" (event 1 0 1 ∷ event 40 1 256 ∷ event 72 256 256 ∷ []) ""
    ∷ looking_at 1 (one_line "*````````````````````````````````````````````````````````````````````````````````````````````````````````````````````````````````````````````````````````````````````````````````````````````````````````````````````````````````````````````````````````````````" (event 1 0 257 ∷ []) "")
    ∷ looking_at 1 (one_line "*`|{`*" (event 38 0 1 ∷ event 40 1 2 ∷ event 1 2 4 ∷ event 72 4 5 ∷ event 70 5 6 ∷ []) "")
    ∷ looking_at 1 (one_line "*`a`{=b}*" (event 38 0 1 ∷ homed 41 (in_text 6 7) 1 2 ∷ event 1 2 3 ∷ homed 73 (in_text 6 7) 3 8 ∷ event 70 8 9 ∷ []) "")
    ∷ looking_at 3 (one_line "*`a`{=b*" (event 38 0 1 ∷ event 40 1 2 ∷ event 1 2 3 ∷ event 72 3 4 ∷ event 1 4 7 ∷ event 70 7 8 ∷ []) "")
    ∷ looking_at 3 (one_line "_*a_" (event 37 0 1 ∷ event 1 1 3 ∷ event 69 3 4 ∷ []) "")
    ∷ looking_at 3 (one_line "*a~*" (event 38 0 1 ∷ event 1 1 3 ∷ event 70 3 4 ∷ []) "")
    ∷ looking_at 2 (one_line "[[][" (event 1 0 4 ∷ []) "")
    ∷ looking_at 1 (one_line "[]]" (event 1 0 3 ∷ []) "")
    ∷ looking_at 3 (one_line "[*]*" (event 1 0 4 ∷ []) "")
    ∷ looking_at 5 (one_line "[**]*" (event 1 0 5 ∷ []) "")
    ∷ looking_at 1 (one_line "''}" (event 10 0 1 ∷ event 10 1 3 ∷ []) "")
    ∷ looking_at 6 (one_line "[[[[" (event 1 0 4 ∷ []) "")
    ∷ looking_at 780 (one_line "[[[[[[[[[[[[[[[[[[[[[[[[[[[[[[[[[[[[[[[[" (event 1 0 40 ∷ []) "")
    ∷ []
