-- What each picture begins with: its style, the heads of its arrows, and a legend.
use Rattle.std.specs.Prelude.{ℕ, List, ◌++◌, codes}

-- rules of the style, in colours that people with a colour weakness can tell apart
unfoldable pub rules_text : List ℕ
rules_text = codes
    "<style>\ntext{font:11px monospace;fill:#222;stroke:#fff;stroke-width:3px;paint-order:stroke}\npath{fill:none;stroke:#222;stroke-width:1.6}\npath.h{stroke:#bbb;stroke-width:1}\ntext.h{font-weight:bold;text-anchor:middle}\ntext.e{fill:#777;text-anchor:end}\npath.e{stroke:#eee;stroke-width:1}\npath.p{stroke:#0072b2;marker-end:url(#p)}\npath.a{stroke:#bbb;stroke-width:1;marker-end:url(#a)}\npath.l{stroke:#d55e00;stroke-dasharray:6 4}\npath.o{stroke:#0072b2;stroke-dasharray:1 3}\npath.f{stroke:#cc79a7;stroke-width:2.2;marker-end:url(#f)}\npath.c{stroke:#d55e00;stroke-width:2.4}\npath.v{fill:#009e73;stroke:none}\npath.x{fill:#e69f00;stroke-width:1}\npath.s{fill:#222;stroke:none}\npath.d{fill:#fff}\npath.i{fill:#0072b2;stroke:none}\npath.g{fill:#cc79a7;stroke:none}\nmarker path{stroke:none}\n#p path{fill:#0072b2}\n#a path{fill:#bbb}\n#f path{fill:#cc79a7}\ntext.k{fill:#0072b2;font-size:9px}\ntext.c{fill:#b34a00}\ntext.g{fill:#a0457a}\ntext.n{font-weight:bold}\ntext.t{fill:#777}\ntext.r{text-anchor:end}\n</style>\n"

-- the heads of arrows
unfoldable pub heads_text : List ℕ
heads_text = codes
    "<defs>\n<marker id='p' viewBox='0 0 8 8' refX='8' refY='4' markerWidth='8' markerHeight='8' markerUnits='userSpaceOnUse' orient='auto'><path d='M0 0l8 4l-8 4z'/></marker>\n<marker id='a' viewBox='0 0 8 8' refX='8' refY='4' markerWidth='7' markerHeight='7' markerUnits='userSpaceOnUse' orient='auto'><path d='M0 0l8 4l-8 4z'/></marker>\n<marker id='f' viewBox='0 0 8 8' refX='8' refY='4' markerWidth='9' markerHeight='9' markerUnits='userSpaceOnUse' orient='auto'><path d='M0 0l8 4l-8 4z'/></marker>\n</defs>\n"

-- the ground, and what lines and signs mean
unfoldable pub legend_text : List ℕ
legend_text = codes
    "<rect width='100%' height='100%' fill='#fff'/>\n<path class='p' d='M12 18h30'/><text x='48' y='22'>packet</text>\n<path class='a' d='M104 18h30'/><text x='140' y='22'>advert</text>\n<path class='l' d='M196 18h26'/><path class='c' d='M222 18m-5 -5l10 10m0 -10l-10 10'/><text x='234' y='22'>lost</text>\n<path class='o' d='M276 18h30'/><text x='312' y='22'>on the wire</text>\n<path class='f' d='M398 18h30'/><text x='434' y='22'>forged</text>\n<path class='v' d='M494 18m-4 0a4 4 0 1 0 8 0a4 4 0 1 0 -8 0'/><text x='504' y='22'>value</text>\n<path class='x' d='M554 18m-5 0l5 -5l5 5l-5 5z'/><text x='565' y='22'>exception</text>\n<path class='s' d='M642 18m-4 -4h8v8h-8z'/><text x='652' y='22'>work spent</text>\n<path class='d' d='M736 18m-4 -4h8v8h-8zl8 8m0 -8l-8 8'/><text x='746' y='22'>drop</text>\n"

-- what each picture begins with
unfoldable pub style_text : List ℕ
style_text = rules_text ++ (heads_text ++ legend_text)
