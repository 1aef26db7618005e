-- Texts and their first breaches: formats.
use Rattle.std.specs.Prelude.{true, false, List, [], ◌∷◌, Some, None, codes}
use Rattle.td_test_rows.specs.Imports.{One, Two, Four, LittleEndian, BigEndian, Decimal, Hexadecimal, Value, FieldPtr, Act, Done, Define, Struct, Casetype, Output}
use Rattle.td_ast.specs.declared.expressions.BinaryOperator.TheVariants as operator
use Rattle.td_ast.specs.Trees as tree
use Rattle.td_ast.specs.Statements.{StoreField}
use Rattle.td_ast.specs.declared.names.ConstTree.TheVariants as constant
use Rattle.td_ast.specs.declared.names.PlainTree.TheVariants as plain
use Rattle.td_ast.specs.declared.parameters.TargetTree.TheVariants as target
use Rattle.td_ast.specs.declared.parameters.ParamTree.TheVariants as param
use Rattle.td_ast.specs.declared.fields.TypeKind.TheVariants as type
use Rattle.td_ast.specs.declared.fields.ExtentTree.TheVariants as extent
use Rattle.td_ast.specs.declared.definitions.SlotKind.TheVariants as slot
use Rattle.td_test_rows.specs.Rows.{Row, sp, nm, number}

abbrev pub formats : List Row
formats =
    -- #define ETH_VLAN 0x8100 #define ETH_TYPES 0x0600 #define ETH_LENGTHS 1500 output typedef struct _ETHERNET_OUT .. (a whole format)
    -- no breach
    ((Define (record { name = (nm "ETH_VLAN" 8 16); value = (record { value = 33024; base = Hexadecimal; span = (sp 17 23) }) }) ∷ Define (record { name = (nm "ETH_TYPES" 32 41); value = (record { value = 1536; base = Hexadecimal; span = (sp 42 48) }) }) ∷ Define (record { name = (nm "ETH_LENGTHS" 57 68); value = (record { value = 1500; base = Decimal; span = (sp 69 73) }) }) ∷ Output (record { tag = (nm "_ETHERNET_OUT" 96 109); slots = (record { kind = slot.Number (record { number = (number Two LittleEndian); span = (sp 112 118) }); name = (nm "Type" 119 123) } ∷ record { kind = slot.Number (record { number = (number Two LittleEndian); span = (sp 125 131) }); name = (nm "Vlan" 132 136) } ∷ record { kind = slot.Pointer (sp 138 144); name = (nm "Payload" 145 152) } ∷ []); name = (nm "ETHERNET_OUT" 156 168) }) ∷ Casetype (record { entry = false; tag = (nm "_ETH_PAYLOAD" 179 191); head = (record { params = (param.Value (plain.Number (record { number = (number Two LittleEndian); span = (sp 192 198) })) (nm "kind" 199 203) ∷ []); condition = None }); subject = (tree.Choice (sp 215 242) (sp 235 236) (tree.Binary (sp 215 234) operator.LessEqual (sp 220 222) (tree.Name (sp 215 219) (nm "kind" 215 219)) (tree.Name (sp 223 234) (nm "ETH_LENGTHS" 223 234))) (tree.Number (sp 237 238) 1 Decimal) (tree.Number (sp 241 242) 0 Decimal)); cases = (record { constant = (constant.Number (record { value = 1; base = Decimal; span = (sp 251 252) })); fields = (record { type_tree = (record { span = (sp 254 259); kind = type.Number (number One LittleEndian) }); name = (nm "data" 260 264); extent = (Some (extent.Bytes (tree.Name (sp 265 269) (nm "kind" 265 269)))); refinement = None; action = None } ∷ record { type_tree = (record { span = (sp 272 281); kind = type.AllBytes }); name = (nm "padding" 282 289); extent = None; refinement = None; action = None } ∷ []) } ∷ []); default = (Some (record { type_tree = (record { span = (sp 300 309); kind = type.AllBytes }); name = (nm "data" 310 314); extent = None; refinement = None; action = None } ∷ [])); name = (nm "ETH_PAYLOAD" 320 331) }) ∷ Struct (record { entry = false; tag = (nm "_ETH_BODY" 348 357); head = (record { params = (param.Value (plain.Number (record { number = (number Two LittleEndian); span = (sp 358 364) })) (nm "kind" 365 369) ∷ param.Mutable (target.Named (nm "ETHERNET_OUT" 379 391)) (nm "r" 393 394) ∷ []); condition = (Some (tree.Binary (sp 402 444) operator.Or (sp 423 425) (tree.Binary (sp 403 422) operator.LessEqual (sp 408 410) (tree.Name (sp 403 407) (nm "kind" 403 407)) (tree.Name (sp 411 422) (nm "ETH_LENGTHS" 411 422))) (tree.Binary (sp 426 443) operator.GreaterEqual (sp 431 433) (tree.Name (sp 426 430) (nm "kind" 426 430)) (tree.Name (sp 434 443) (nm "ETH_TYPES" 434 443))))) }); fields = (record { type_tree = (record { span = (sp 447 451); kind = type.Unit }); name = (nm "start" 452 457); extent = None; refinement = None; action = (Some (Done Act (sp 458 463) (StoreField (sp 464 479) (nm "r" 464 465) (nm "Type" 467 471) (Value (tree.Name (sp 474 478) (nm "kind" 474 478))) ∷ StoreField (sp 480 503) (nm "r" 480 481) (nm "Payload" 483 490) (FieldPtr (sp 493 502)) ∷ []))) } ∷ record { type_tree = (record { span = (sp 506 517); kind = type.Named (codes "ETH_PAYLOAD") ((tree.Name (sp 518 522) (nm "kind" 518 522)) ∷ []) }); name = (nm "payload" 524 531); extent = None; refinement = None; action = None } ∷ []); name = (nm "ETH_BODY" 535 543) }) ∷ Struct (record { entry = false; tag = (nm "_ETH_TAGGED" 560 571); head = (record { params = (param.Mutable (target.Named (nm "ETHERNET_OUT" 580 592)) (nm "r" 594 595) ∷ []); condition = None }); fields = (record { type_tree = (record { span = (sp 599 607); kind = type.Number (number Two BigEndian) }); name = (nm "pcp" 608 611); extent = (Some (extent.Bits (record { value = 3; base = Decimal; span = (sp 614 615) }))); refinement = None; action = None } ∷ record { type_tree = (record { span = (sp 617 625); kind = type.Number (number Two BigEndian) }); name = (nm "dei" 626 629); extent = (Some (extent.Bits (record { value = 1; base = Decimal; span = (sp 632 633) }))); refinement = None; action = None } ∷ record { type_tree = (record { span = (sp 635 643); kind = type.Number (number Two BigEndian) }); name = (nm "vid" 644 647); extent = (Some (extent.Bits (record { value = 12; base = Decimal; span = (sp 650 652) }))); refinement = None; action = (Some (Done Act (sp 653 658) (StoreField (sp 659 673) (nm "r" 659 660) (nm "Vlan" 662 666) (Value (tree.Name (sp 669 672) (nm "vid" 669 672))) ∷ []))) } ∷ record { type_tree = (record { span = (sp 676 684); kind = type.Number (number Two BigEndian) }); name = (nm "kind" 685 689); extent = None; refinement = None; action = None } ∷ record { type_tree = (record { span = (sp 691 699); kind = type.Named (codes "ETH_BODY") ((tree.Name (sp 700 704) (nm "kind" 700 704)) ∷ (tree.Name (sp 706 707) (nm "r" 706 707)) ∷ []) }); name = (nm "body" 709 713); extent = None; refinement = None; action = None } ∷ []); name = (nm "ETH_TAGGED" 717 727) }) ∷ Casetype (record { entry = false; tag = (nm "_ETH_REST" 738 747); head = (record { params = (param.Value (plain.Number (record { number = (number Two LittleEndian); span = (sp 748 754) })) (nm "kind" 755 759) ∷ param.Mutable (target.Named (nm "ETHERNET_OUT" 769 781)) (nm "r" 783 784) ∷ []); condition = None }); subject = (tree.Name (sp 796 800) (nm "kind" 796 800)); cases = (record { constant = (constant.Named (nm "ETH_VLAN" 809 817)); fields = (record { type_tree = (record { span = (sp 819 829); kind = type.Named (codes "ETH_TAGGED") ((tree.Name (sp 830 831) (nm "r" 830 831)) ∷ []) }); name = (nm "tagged" 833 839); extent = None; refinement = None; action = None } ∷ []) } ∷ []); default = (Some (record { type_tree = (record { span = (sp 850 858); kind = type.Named (codes "ETH_BODY") ((tree.Name (sp 859 863) (nm "kind" 859 863)) ∷ (tree.Name (sp 865 866) (nm "r" 865 866)) ∷ []) }); name = (nm "body" 868 872); extent = None; refinement = None; action = None } ∷ [])); name = (nm "ETH_REST" 878 886) }) ∷ Struct (record { entry = true; tag = (nm "_ETHERNET" 914 923); head = (record { params = (param.Mutable (target.Named (nm "ETHERNET_OUT" 932 944)) (nm "r" 946 947) ∷ []); condition = None }); fields = (record { type_tree = (record { span = (sp 951 956); kind = type.Number (number One LittleEndian) }); name = (nm "destination" 957 968); extent = (Some (extent.Bytes (tree.Number (sp 969 970) 6 Decimal))); refinement = None; action = None } ∷ record { type_tree = (record { span = (sp 973 978); kind = type.Number (number One LittleEndian) }); name = (nm "source" 979 985); extent = (Some (extent.Bytes (tree.Number (sp 986 987) 6 Decimal))); refinement = None; action = None } ∷ record { type_tree = (record { span = (sp 990 998); kind = type.Number (number Two BigEndian) }); name = (nm "kind" 999 1003); extent = None; refinement = None; action = None } ∷ record { type_tree = (record { span = (sp 1005 1013); kind = type.Named (codes "ETH_REST") ((tree.Name (sp 1014 1018) (nm "kind" 1014 1018)) ∷ (tree.Name (sp 1020 1021) (nm "r" 1020 1021)) ∷ []) }); name = (nm "rest" 1023 1027); extent = None; refinement = None; action = None } ∷ []); name = (nm "ETHERNET" 1031 1039) }) ∷ []), None) ∷
    -- output typedef struct _IPV4_OUT .. (a whole format)
    -- no breach
    ((Output (record { tag = (nm "_IPV4_OUT" 22 31); slots = (record { kind = slot.Number (record { number = (number One LittleEndian); span = (sp 34 39) }); name = (nm "Protocol" 40 48) } ∷ record { kind = slot.Number (record { number = (number Four LittleEndian); span = (sp 50 56) }); name = (nm "Source" 57 63) } ∷ record { kind = slot.Number (record { number = (number Four LittleEndian); span = (sp 65 71) }); name = (nm "Destination" 72 83) } ∷ record { kind = slot.Pointer (sp 85 91); name = (nm "Payload" 92 99) } ∷ record { kind = slot.Number (record { number = (number Two LittleEndian); span = (sp 101 107) }); name = (nm "Length" 108 114) } ∷ []); name = (nm "IPV4_OUT" 118 126) }) ∷ Struct (record { entry = true; tag = (nm "_IPV4" 154 159); head = (record { params = (param.Value (plain.Number (record { number = (number Four LittleEndian); span = (sp 160 166) })) (nm "packet" 167 173) ∷ param.Mutable (target.Named (nm "IPV4_OUT" 183 191)) (nm "r" 193 194) ∷ []); condition = None }); fields = (record { type_tree = (record { span = (sp 198 205); kind = type.Number (number One BigEndian) }); name = (nm "version" 206 213); extent = (Some (extent.Bits (record { value = 4; base = Decimal; span = (sp 216 217) }))); refinement = (Some (tree.Binary (sp 220 232) operator.Equal (sp 228 230) (tree.Name (sp 220 227) (nm "version" 220 227)) (tree.Number (sp 231 232) 4 Decimal))); action = None } ∷ record { type_tree = (record { span = (sp 236 243); kind = type.Number (number One BigEndian) }); name = (nm "ihl" 244 247); extent = (Some (extent.Bits (record { value = 4; base = Decimal; span = (sp 250 251) }))); refinement = (Some (tree.Binary (sp 254 262) operator.GreaterEqual (sp 258 260) (tree.Name (sp 254 257) (nm "ihl" 254 257)) (tree.Number (sp 261 262) 5 Decimal))); action = None } ∷ record { type_tree = (record { span = (sp 266 271); kind = type.Number (number One LittleEndian) }); name = (nm "service" 272 279); extent = None; refinement = None; action = None } ∷ record { type_tree = (record { span = (sp 281 289); kind = type.Number (number Two BigEndian) }); name = (nm "total" 290 295); extent = None; refinement = (Some (tree.Binary (sp 298 333) operator.And (sp 315 317) (tree.Binary (sp 298 314) operator.GreaterEqual (sp 304 306) (tree.Name (sp 298 303) (nm "total" 298 303)) (tree.Binary (sp 307 314) operator.Multiply (sp 311 312) (tree.Name (sp 307 310) (nm "ihl" 307 310)) (tree.Number (sp 313 314) 4 Decimal))) (tree.Binary (sp 318 333) operator.LessEqual (sp 324 326) (tree.Name (sp 318 323) (nm "total" 318 323)) (tree.Name (sp 327 333) (nm "packet" 327 333))))); action = None } ∷ record { type_tree = (record { span = (sp 337 345); kind = type.Number (number Two BigEndian) }); name = (nm "identification" 346 360); extent = None; refinement = None; action = None } ∷ record { type_tree = (record { span = (sp 362 370); kind = type.Number (number Two BigEndian) }); name = (nm "flags" 371 376); extent = (Some (extent.Bits (record { value = 3; base = Decimal; span = (sp 379 380) }))); refinement = None; action = None } ∷ record { type_tree = (record { span = (sp 382 390); kind = type.Number (number Two BigEndian) }); name = (nm "fragment" 391 399); extent = (Some (extent.Bits (record { value = 13; base = Decimal; span = (sp 402 404) }))); refinement = None; action = None } ∷ record { type_tree = (record { span = (sp 406 411); kind = type.Number (number One LittleEndian) }); name = (nm "ttl" 412 415); extent = None; refinement = None; action = None } ∷ record { type_tree = (record { span = (sp 417 422); kind = type.Number (number One LittleEndian) }); name = (nm "protocol" 423 431); extent = None; refinement = None; action = (Some (Done Act (sp 432 437) (StoreField (sp 438 461) (nm "r" 438 439) (nm "Protocol" 441 449) (Value (tree.Name (sp 452 460) (nm "protocol" 452 460))) ∷ []))) } ∷ record { type_tree = (record { span = (sp 464 472); kind = type.Number (number Two BigEndian) }); name = (nm "checksum" 473 481); extent = None; refinement = None; action = None } ∷ record { type_tree = (record { span = (sp 483 491); kind = type.Number (number Four BigEndian) }); name = (nm "source" 492 498); extent = None; refinement = None; action = (Some (Done Act (sp 499 504) (StoreField (sp 505 524) (nm "r" 505 506) (nm "Source" 508 514) (Value (tree.Name (sp 517 523) (nm "source" 517 523))) ∷ []))) } ∷ record { type_tree = (record { span = (sp 527 535); kind = type.Number (number Four BigEndian) }); name = (nm "destination" 536 547); extent = None; refinement = None; action = (Some (Done Act (sp 548 553) (StoreField (sp 554 583) (nm "r" 554 555) (nm "Destination" 557 568) (Value (tree.Name (sp 571 582) (nm "destination" 571 582))) ∷ []))) } ∷ record { type_tree = (record { span = (sp 586 591); kind = type.Number (number One LittleEndian) }); name = (nm "options" 592 599); extent = (Some (extent.Bytes (tree.Binary (sp 600 612) operator.Subtract (sp 608 609) (tree.Binary (sp 600 607) operator.Multiply (sp 604 605) (tree.Name (sp 600 603) (nm "ihl" 600 603)) (tree.Number (sp 606 607) 4 Decimal)) (tree.Number (sp 610 612) 20 Decimal)))); refinement = None; action = None } ∷ record { type_tree = (record { span = (sp 615 620); kind = type.Number (number One LittleEndian) }); name = (nm "payload" 621 628); extent = (Some (extent.Bytes (tree.Binary (sp 629 644) operator.Subtract (sp 635 636) (tree.Name (sp 629 634) (nm "total" 629 634)) (tree.Binary (sp 637 644) operator.Multiply (sp 641 642) (tree.Name (sp 637 640) (nm "ihl" 637 640)) (tree.Number (sp 643 644) 4 Decimal))))); refinement = None; action = (Some (Done Act (sp 646 651) (StoreField (sp 652 675) (nm "r" 652 653) (nm "Payload" 655 662) (FieldPtr (sp 665 674)) ∷ StoreField (sp 676 704) (nm "r" 676 677) (nm "Length" 679 685) (Value (tree.Binary (sp 688 703) operator.Subtract (sp 694 695) (tree.Name (sp 688 693) (nm "total" 688 693)) (tree.Binary (sp 696 703) operator.Multiply (sp 700 701) (tree.Name (sp 696 699) (nm "ihl" 696 699)) (tree.Number (sp 702 703) 4 Decimal)))) ∷ []))) } ∷ []); name = (nm "IPV4" 709 713) }) ∷ []), None) ∷
    -- output typedef struct _TCP_OUT .. (a whole format)
    -- no breach
    ((Output (record { tag = (nm "_TCP_OUT" 22 30); slots = (record { kind = slot.Number (record { number = (number Two LittleEndian); span = (sp 33 39) }); name = (nm "Mss" 40 43) } ∷ record { kind = slot.Number (record { number = (number One LittleEndian); span = (sp 45 50) }); name = (nm "WindowScale" 51 62) } ∷ record { kind = slot.Number (record { number = (number One LittleEndian); span = (sp 64 69) }); name = (nm "SackPermitted" 70 83) } ∷ record { kind = slot.Number (record { number = (number Four LittleEndian); span = (sp 85 91) }); name = (nm "TsVal" 92 97) } ∷ record { kind = slot.Number (record { number = (number Four LittleEndian); span = (sp 99 105) }); name = (nm "TsEcr" 106 111) } ∷ record { kind = slot.Pointer (sp 113 119); name = (nm "Data" 120 124) } ∷ []); name = (nm "TCP_OUT" 128 135) }) ∷ Casetype (record { entry = false; tag = (nm "_TCP_OPTION_BODY" 146 162); head = (record { params = (param.Value (plain.Number (record { number = (number One LittleEndian); span = (sp 163 168) })) (nm "kind" 169 173) ∷ param.Mutable (target.Named (nm "TCP_OUT" 183 190)) (nm "r" 192 193) ∷ []); condition = None }); subject = (tree.Name (sp 205 209) (nm "kind" 205 209)); cases = (record { constant = (constant.Number (record { value = 0; base = Decimal; span = (sp 218 219) })); fields = (record { type_tree = (record { span = (sp 221 225); kind = type.Unit }); name = (nm "end" 226 229); extent = None; refinement = None; action = None } ∷ []) } ∷ record { constant = (constant.Number (record { value = 1; base = Decimal; span = (sp 236 237) })); fields = (record { type_tree = (record { span = (sp 239 243); kind = type.Unit }); name = (nm "nop" 244 247); extent = None; refinement = None; action = None } ∷ []) } ∷ record { constant = (constant.Number (record { value = 2; base = Decimal; span = (sp 254 255) })); fields = (record { type_tree = (record { span = (sp 257 262); kind = type.Number (number One LittleEndian) }); name = (nm "length" 263 269); extent = None; refinement = (Some (tree.Binary (sp 272 283) operator.Equal (sp 279 281) (tree.Name (sp 272 278) (nm "length" 272 278)) (tree.Number (sp 282 283) 4 Decimal))); action = None } ∷ record { type_tree = (record { span = (sp 287 295); kind = type.Number (number Two BigEndian) }); name = (nm "mss" 296 299); extent = None; refinement = None; action = (Some (Done Act (sp 300 305) (StoreField (sp 306 319) (nm "r" 306 307) (nm "Mss" 309 312) (Value (tree.Name (sp 315 318) (nm "mss" 315 318))) ∷ []))) } ∷ []) } ∷ record { constant = (constant.Number (record { value = 3; base = Decimal; span = (sp 327 328) })); fields = (record { type_tree = (record { span = (sp 330 335); kind = type.Number (number One LittleEndian) }); name = (nm "length" 336 342); extent = None; refinement = (Some (tree.Binary (sp 345 356) operator.Equal (sp 352 354) (tree.Name (sp 345 351) (nm "length" 345 351)) (tree.Number (sp 355 356) 3 Decimal))); action = None } ∷ record { type_tree = (record { span = (sp 360 365); kind = type.Number (number One LittleEndian) }); name = (nm "scale" 366 371); extent = None; refinement = None; action = (Some (Done Act (sp 372 377) (StoreField (sp 378 401) (nm "r" 378 379) (nm "WindowScale" 381 392) (Value (tree.Name (sp 395 400) (nm "scale" 395 400))) ∷ []))) } ∷ []) } ∷ record { constant = (constant.Number (record { value = 4; base = Decimal; span = (sp 409 410) })); fields = (record { type_tree = (record { span = (sp 412 417); kind = type.Number (number One LittleEndian) }); name = (nm "length" 418 424); extent = None; refinement = (Some (tree.Binary (sp 427 438) operator.Equal (sp 434 436) (tree.Name (sp 427 433) (nm "length" 427 433)) (tree.Number (sp 437 438) 2 Decimal))); action = (Some (Done Act (sp 441 446) (StoreField (sp 447 468) (nm "r" 447 448) (nm "SackPermitted" 450 463) (Value (tree.Number (sp 466 467) 1 Decimal)) ∷ []))) } ∷ []) } ∷ record { constant = (constant.Number (record { value = 5; base = Decimal; span = (sp 476 477) })); fields = (record { type_tree = (record { span = (sp 479 484); kind = type.Number (number One LittleEndian) }); name = (nm "length" 485 491); extent = None; refinement = (Some (tree.Binary (sp 494 572) operator.And (sp 507 509) (tree.Binary (sp 494 506) operator.GreaterEqual (sp 501 503) (tree.Name (sp 494 500) (nm "length" 494 500)) (tree.Number (sp 504 506) 10 Decimal)) (tree.Binary (sp 510 572) operator.Or (sp 556 558) (tree.Binary (sp 511 555) operator.Or (sp 540 542) (tree.Binary (sp 511 539) operator.Or (sp 524 526) (tree.Binary (sp 511 523) operator.Equal (sp 518 520) (tree.Name (sp 511 517) (nm "length" 511 517)) (tree.Number (sp 521 523) 10 Decimal)) (tree.Binary (sp 527 539) operator.Equal (sp 534 536) (tree.Name (sp 527 533) (nm "length" 527 533)) (tree.Number (sp 537 539) 18 Decimal))) (tree.Binary (sp 543 555) operator.Equal (sp 550 552) (tree.Name (sp 543 549) (nm "length" 543 549)) (tree.Number (sp 553 555) 26 Decimal))) (tree.Binary (sp 559 571) operator.Equal (sp 566 568) (tree.Name (sp 559 565) (nm "length" 559 565)) (tree.Number (sp 569 571) 34 Decimal))))); action = None } ∷ record { type_tree = (record { span = (sp 576 581); kind = type.Number (number One LittleEndian) }); name = (nm "blocks" 582 588); extent = (Some (extent.Bytes (tree.Binary (sp 589 599) operator.Subtract (sp 596 597) (tree.Name (sp 589 595) (nm "length" 589 595)) (tree.Number (sp 598 599) 2 Decimal)))); refinement = None; action = None } ∷ []) } ∷ record { constant = (constant.Number (record { value = 8; base = Decimal; span = (sp 607 608) })); fields = (record { type_tree = (record { span = (sp 610 615); kind = type.Number (number One LittleEndian) }); name = (nm "length" 616 622); extent = None; refinement = (Some (tree.Binary (sp 625 637) operator.Equal (sp 632 634) (tree.Name (sp 625 631) (nm "length" 625 631)) (tree.Number (sp 635 637) 10 Decimal))); action = None } ∷ record { type_tree = (record { span = (sp 641 649); kind = type.Number (number Four BigEndian) }); name = (nm "val" 650 653); extent = None; refinement = None; action = (Some (Done Act (sp 654 659) (StoreField (sp 660 675) (nm "r" 660 661) (nm "TsVal" 663 668) (Value (tree.Name (sp 671 674) (nm "val" 671 674))) ∷ []))) } ∷ record { type_tree = (record { span = (sp 678 686); kind = type.Number (number Four BigEndian) }); name = (nm "ecr" 687 690); extent = None; refinement = None; action = (Some (Done Act (sp 691 696) (StoreField (sp 697 712) (nm "r" 697 698) (nm "TsEcr" 700 705) (Value (tree.Name (sp 708 711) (nm "ecr" 708 711))) ∷ []))) } ∷ []) } ∷ []); default = (Some (record { type_tree = (record { span = (sp 724 729); kind = type.Number (number One LittleEndian) }); name = (nm "length" 730 736); extent = None; refinement = (Some (tree.Binary (sp 739 750) operator.GreaterEqual (sp 746 748) (tree.Name (sp 739 745) (nm "length" 739 745)) (tree.Number (sp 749 750) 2 Decimal))); action = None } ∷ record { type_tree = (record { span = (sp 754 759); kind = type.Number (number One LittleEndian) }); name = (nm "data" 760 764); extent = (Some (extent.Bytes (tree.Binary (sp 765 775) operator.Subtract (sp 772 773) (tree.Name (sp 765 771) (nm "length" 765 771)) (tree.Number (sp 774 775) 2 Decimal)))); refinement = None; action = None } ∷ [])); name = (nm "TCP_OPTION_BODY" 782 797) }) ∷ Struct (record { entry = false; tag = (nm "_TCP_OPTION" 814 825); head = (record { params = (param.Mutable (target.Named (nm "TCP_OUT" 834 841)) (nm "r" 843 844) ∷ []); condition = None }); fields = (record { type_tree = (record { span = (sp 848 853); kind = type.Number (number One LittleEndian) }); name = (nm "kind" 854 858); extent = None; refinement = None; action = None } ∷ record { type_tree = (record { span = (sp 860 875); kind = type.Named (codes "TCP_OPTION_BODY") ((tree.Name (sp 876 880) (nm "kind" 876 880)) ∷ (tree.Name (sp 882 883) (nm "r" 882 883)) ∷ []) }); name = (nm "body" 885 889); extent = None; refinement = None; action = None } ∷ []); name = (nm "TCP_OPTION" 893 903) }) ∷ Struct (record { entry = true; tag = (nm "_TCP" 931 935); head = (record { params = (param.Value (plain.Number (record { number = (number Four LittleEndian); span = (sp 936 942) })) (nm "segment" 943 950) ∷ param.Mutable (target.Named (nm "TCP_OUT" 960 967)) (nm "r" 969 970) ∷ []); condition = None }); fields = (record { type_tree = (record { span = (sp 974 982); kind = type.Number (number Two BigEndian) }); name = (nm "sourcePort" 983 993); extent = None; refinement = None; action = None } ∷ record { type_tree = (record { span = (sp 995 1003); kind = type.Number (number Two BigEndian) }); name = (nm "destinationPort" 1004 1019); extent = None; refinement = None; action = None } ∷ record { type_tree = (record { span = (sp 1021 1029); kind = type.Number (number Four BigEndian) }); name = (nm "sequence" 1030 1038); extent = None; refinement = None; action = None } ∷ record { type_tree = (record { span = (sp 1040 1048); kind = type.Number (number Four BigEndian) }); name = (nm "acknowledgment" 1049 1063); extent = None; refinement = None; action = None } ∷ record { type_tree = (record { span = (sp 1065 1073); kind = type.Number (number Two BigEndian) }); name = (nm "offset" 1074 1080); extent = (Some (extent.Bits (record { value = 4; base = Decimal; span = (sp 1083 1084) }))); refinement = (Some (tree.Binary (sp 1087 1123) operator.And (sp 1099 1101) (tree.Binary (sp 1087 1098) operator.GreaterEqual (sp 1094 1096) (tree.Name (sp 1087 1093) (nm "offset" 1087 1093)) (tree.Number (sp 1097 1098) 5 Decimal)) (tree.Binary (sp 1102 1123) operator.LessEqual (sp 1113 1115) (tree.Binary (sp 1102 1112) operator.Multiply (sp 1109 1110) (tree.Name (sp 1102 1108) (nm "offset" 1102 1108)) (tree.Number (sp 1111 1112) 4 Decimal)) (tree.Name (sp 1116 1123) (nm "segment" 1116 1123))))); action = None } ∷ record { type_tree = (record { span = (sp 1127 1135); kind = type.Number (number Two BigEndian) }); name = (nm "reserved" 1136 1144); extent = (Some (extent.Bits (record { value = 4; base = Decimal; span = (sp 1147 1148) }))); refinement = None; action = None } ∷ record { type_tree = (record { span = (sp 1150 1158); kind = type.Number (number Two BigEndian) }); name = (nm "flags" 1159 1164); extent = (Some (extent.Bits (record { value = 8; base = Decimal; span = (sp 1167 1168) }))); refinement = None; action = None } ∷ record { type_tree = (record { span = (sp 1170 1178); kind = type.Number (number Two BigEndian) }); name = (nm "window" 1179 1185); extent = None; refinement = None; action = None } ∷ record { type_tree = (record { span = (sp 1187 1195); kind = type.Number (number Two BigEndian) }); name = (nm "checksum" 1196 1204); extent = None; refinement = None; action = None } ∷ record { type_tree = (record { span = (sp 1206 1214); kind = type.Number (number Two BigEndian) }); name = (nm "urgent" 1215 1221); extent = None; refinement = None; action = None } ∷ record { type_tree = (record { span = (sp 1223 1233); kind = type.Named (codes "TCP_OPTION") ((tree.Name (sp 1234 1235) (nm "r" 1234 1235)) ∷ []) }); name = (nm "options" 1237 1244); extent = (Some (extent.ByteSize (tree.Binary (sp 1256 1271) operator.Subtract (sp 1267 1268) (tree.Binary (sp 1256 1266) operator.Multiply (sp 1263 1264) (tree.Name (sp 1256 1262) (nm "offset" 1256 1262)) (tree.Number (sp 1265 1266) 4 Decimal)) (tree.Number (sp 1269 1271) 20 Decimal)))); refinement = None; action = None } ∷ record { type_tree = (record { span = (sp 1274 1279); kind = type.Number (number One LittleEndian) }); name = (nm "data" 1280 1284); extent = (Some (extent.Bytes (tree.Binary (sp 1285 1305) operator.Subtract (sp 1293 1294) (tree.Name (sp 1285 1292) (nm "segment" 1285 1292)) (tree.Binary (sp 1295 1305) operator.Multiply (sp 1302 1303) (tree.Name (sp 1295 1301) (nm "offset" 1295 1301)) (tree.Number (sp 1304 1305) 4 Decimal))))); refinement = None; action = (Some (Done Act (sp 1307 1312) (StoreField (sp 1313 1333) (nm "r" 1313 1314) (nm "Data" 1316 1320) (FieldPtr (sp 1323 1332)) ∷ []))) } ∷ []); name = (nm "TCP" 1338 1341) }) ∷ []), None) ∷
    -- output typedef struct _RNDIS_OUT .. (a whole format)
    -- no breach
    ((Output (record { tag = (nm "_RNDIS_OUT" 22 32); slots = (record { kind = slot.Number (record { number = (number Four LittleEndian); span = (sp 35 41) }); name = (nm "Type" 42 46) } ∷ record { kind = slot.Number (record { number = (number Four LittleEndian); span = (sp 48 54) }); name = (nm "Length" 55 61) } ∷ record { kind = slot.Number (record { number = (number Four LittleEndian); span = (sp 63 69) }); name = (nm "RequestId" 70 79) } ∷ record { kind = slot.Pointer (sp 81 87); name = (nm "Data" 88 92) } ∷ record { kind = slot.Number (record { number = (number Four LittleEndian); span = (sp 94 100) }); name = (nm "DataLength" 101 111) } ∷ []); name = (nm "RNDIS_OUT" 115 124) }) ∷ Struct (record { entry = false; tag = (nm "_RNDIS_PACKET" 141 154); head = (record { params = (param.Value (plain.Number (record { number = (number Four LittleEndian); span = (sp 155 161) })) (nm "length" 162 168) ∷ param.Mutable (target.Named (nm "RNDIS_OUT" 178 187)) (nm "r" 189 190) ∷ []); condition = (Some (tree.Binary (sp 198 212) operator.GreaterEqual (sp 206 208) (tree.Name (sp 199 205) (nm "length" 199 205)) (tree.Number (sp 209 211) 44 Decimal))) }); fields = (record { type_tree = (record { span = (sp 215 221); kind = type.Number (number Four LittleEndian) }); name = (nm "dataOffset" 222 232); extent = None; refinement = (Some (tree.Binary (sp 235 279) operator.And (sp 252 254) (tree.Binary (sp 235 251) operator.GreaterEqual (sp 246 248) (tree.Name (sp 235 245) (nm "dataOffset" 235 245)) (tree.Number (sp 249 251) 36 Decimal)) (tree.Binary (sp 255 279) operator.LessEqual (sp 266 268) (tree.Name (sp 255 265) (nm "dataOffset" 255 265)) (tree.Binary (sp 269 279) operator.Subtract (sp 276 277) (tree.Name (sp 269 275) (nm "length" 269 275)) (tree.Number (sp 278 279) 8 Decimal))))); action = None } ∷ record { type_tree = (record { span = (sp 283 289); kind = type.Number (number Four LittleEndian) }); name = (nm "dataLength" 290 300); extent = None; refinement = (Some (tree.Binary (sp 303 340) operator.LessEqual (sp 314 316) (tree.Name (sp 303 313) (nm "dataLength" 303 313)) (tree.Binary (sp 317 340) operator.Subtract (sp 328 329) (tree.Binary (sp 317 327) operator.Subtract (sp 324 325) (tree.Name (sp 317 323) (nm "length" 317 323)) (tree.Number (sp 326 327) 8 Decimal)) (tree.Name (sp 330 340) (nm "dataOffset" 330 340))))); action = None } ∷ record { type_tree = (record { span = (sp 344 350); kind = type.Number (number Four LittleEndian) }); name = (nm "oobOffset" 351 360); extent = None; refinement = None; action = None } ∷ record { type_tree = (record { span = (sp 362 368); kind = type.Number (number Four LittleEndian) }); name = (nm "oobLength" 369 378); extent = None; refinement = (Some (tree.Binary (sp 381 395) operator.Equal (sp 391 393) (tree.Name (sp 381 390) (nm "oobLength" 381 390)) (tree.Number (sp 394 395) 0 Decimal))); action = None } ∷ record { type_tree = (record { span = (sp 399 405); kind = type.Number (number Four LittleEndian) }); name = (nm "oobCount" 406 414); extent = None; refinement = (Some (tree.Binary (sp 417 430) operator.Equal (sp 426 428) (tree.Name (sp 417 425) (nm "oobCount" 417 425)) (tree.Number (sp 429 430) 0 Decimal))); action = None } ∷ record { type_tree = (record { span = (sp 434 440); kind = type.Number (number Four LittleEndian) }); name = (nm "infoOffset" 441 451); extent = None; refinement = None; action = None } ∷ record { type_tree = (record { span = (sp 453 459); kind = type.Number (number Four LittleEndian) }); name = (nm "infoLength" 460 470); extent = None; refinement = (Some (tree.Binary (sp 473 543) operator.And (sp 511 513) (tree.Binary (sp 473 510) operator.Or (sp 490 492) (tree.Binary (sp 474 489) operator.Equal (sp 485 487) (tree.Name (sp 474 484) (nm "infoLength" 474 484)) (tree.Number (sp 488 489) 0 Decimal)) (tree.Binary (sp 493 509) operator.Equal (sp 504 506) (tree.Name (sp 493 503) (nm "infoOffset" 493 503)) (tree.Number (sp 507 509) 36 Decimal))) (tree.Binary (sp 514 543) operator.LessEqual (sp 525 527) (tree.Name (sp 514 524) (nm "infoLength" 514 524)) (tree.Binary (sp 528 543) operator.Subtract (sp 539 540) (tree.Name (sp 528 538) (nm "dataOffset" 528 538)) (tree.Number (sp 541 543) 36 Decimal))))); action = None } ∷ record { type_tree = (record { span = (sp 547 553); kind = type.Number (number Four LittleEndian) }); name = (nm "vc" 554 556); extent = None; refinement = None; action = None } ∷ record { type_tree = (record { span = (sp 558 564); kind = type.Number (number Four LittleEndian) }); name = (nm "reserved" 565 573); extent = None; refinement = None; action = None } ∷ record { type_tree = (record { span = (sp 575 580); kind = type.Number (number One LittleEndian) }); name = (nm "info" 581 585); extent = (Some (extent.Bytes (tree.Name (sp 586 596) (nm "infoLength" 586 596)))); refinement = None; action = None } ∷ record { type_tree = (record { span = (sp 599 604); kind = type.Number (number One LittleEndian) }); name = (nm "gap" 605 608); extent = (Some (extent.Bytes (tree.Binary (sp 609 637) operator.Subtract (sp 625 626) (tree.Binary (sp 609 624) operator.Subtract (sp 620 621) (tree.Name (sp 609 619) (nm "dataOffset" 609 619)) (tree.Number (sp 622 624) 36 Decimal)) (tree.Name (sp 627 637) (nm "infoLength" 627 637))))); refinement = None; action = None } ∷ record { type_tree = (record { span = (sp 640 645); kind = type.Number (number One LittleEndian) }); name = (nm "data" 646 650); extent = (Some (extent.Bytes (tree.Name (sp 651 661) (nm "dataLength" 651 661)))); refinement = None; action = (Some (Done Act (sp 663 668) (StoreField (sp 669 689) (nm "r" 669 670) (nm "Data" 672 676) (FieldPtr (sp 679 688)) ∷ StoreField (sp 690 717) (nm "r" 690 691) (nm "DataLength" 693 703) (Value (tree.Name (sp 706 716) (nm "dataLength" 706 716))) ∷ []))) } ∷ record { type_tree = (record { span = (sp 720 725); kind = type.Number (number One LittleEndian) }); name = (nm "tail" 726 730); extent = (Some (extent.Bytes (tree.Binary (sp 731 767) operator.Subtract (sp 755 756) (tree.Binary (sp 731 754) operator.Subtract (sp 742 743) (tree.Binary (sp 731 741) operator.Subtract (sp 738 739) (tree.Name (sp 731 737) (nm "length" 731 737)) (tree.Number (sp 740 741) 8 Decimal)) (tree.Name (sp 744 754) (nm "dataOffset" 744 754))) (tree.Name (sp 757 767) (nm "dataLength" 757 767))))); refinement = None; action = None } ∷ []); name = (nm "RNDIS_PACKET" 772 784) }) ∷ Struct (record { entry = false; tag = (nm "_RNDIS_INITIALIZE" 801 818); head = (record { params = (param.Value (plain.Number (record { number = (number Four LittleEndian); span = (sp 819 825) })) (nm "length" 826 832) ∷ param.Mutable (target.Named (nm "RNDIS_OUT" 842 851)) (nm "r" 853 854) ∷ []); condition = (Some (tree.Binary (sp 862 876) operator.Equal (sp 870 872) (tree.Name (sp 863 869) (nm "length" 863 869)) (tree.Number (sp 873 875) 24 Decimal))) }); fields = (record { type_tree = (record { span = (sp 879 885); kind = type.Number (number Four LittleEndian) }); name = (nm "requestId" 886 895); extent = None; refinement = None; action = (Some (Done Act (sp 896 901) (StoreField (sp 902 927) (nm "r" 902 903) (nm "RequestId" 905 914) (Value (tree.Name (sp 917 926) (nm "requestId" 917 926))) ∷ []))) } ∷ record { type_tree = (record { span = (sp 930 936); kind = type.Number (number Four LittleEndian) }); name = (nm "major" 937 942); extent = None; refinement = None; action = None } ∷ record { type_tree = (record { span = (sp 944 950); kind = type.Number (number Four LittleEndian) }); name = (nm "minor" 951 956); extent = None; refinement = None; action = None } ∷ record { type_tree = (record { span = (sp 958 964); kind = type.Number (number Four LittleEndian) }); name = (nm "maxTransfer" 965 976); extent = None; refinement = None; action = None } ∷ []); name = (nm "RNDIS_INITIALIZE" 980 996) }) ∷ Struct (record { entry = false; tag = (nm "_RNDIS_SHORT" 1013 1025); head = (record { params = (param.Value (plain.Number (record { number = (number Four LittleEndian); span = (sp 1026 1032) })) (nm "length" 1033 1039) ∷ param.Mutable (target.Named (nm "RNDIS_OUT" 1049 1058)) (nm "r" 1060 1061) ∷ []); condition = (Some (tree.Binary (sp 1069 1083) operator.Equal (sp 1077 1079) (tree.Name (sp 1070 1076) (nm "length" 1070 1076)) (tree.Number (sp 1080 1082) 12 Decimal))) }); fields = (record { type_tree = (record { span = (sp 1086 1092); kind = type.Number (number Four LittleEndian) }); name = (nm "requestId" 1093 1102); extent = None; refinement = None; action = (Some (Done Act (sp 1103 1108) (StoreField (sp 1109 1134) (nm "r" 1109 1110) (nm "RequestId" 1112 1121) (Value (tree.Name (sp 1124 1133) (nm "requestId" 1124 1133))) ∷ []))) } ∷ []); name = (nm "RNDIS_SHORT" 1139 1150) }) ∷ Struct (record { entry = false; tag = (nm "_RNDIS_RESET" 1167 1179); head = (record { params = (param.Value (plain.Number (record { number = (number Four LittleEndian); span = (sp 1180 1186) })) (nm "length" 1187 1193) ∷ []); condition = (Some (tree.Binary (sp 1201 1215) operator.Equal (sp 1209 1211) (tree.Name (sp 1202 1208) (nm "length" 1202 1208)) (tree.Number (sp 1212 1214) 12 Decimal))) }); fields = (record { type_tree = (record { span = (sp 1218 1224); kind = type.Number (number Four LittleEndian) }); name = (nm "reserved" 1225 1233); extent = None; refinement = None; action = None } ∷ []); name = (nm "RNDIS_RESET" 1237 1248) }) ∷ Struct (record { entry = false; tag = (nm "_RNDIS_REQUEST" 1265 1279); head = (record { params = (param.Value (plain.Number (record { number = (number Four LittleEndian); span = (sp 1280 1286) })) (nm "length" 1287 1293) ∷ param.Mutable (target.Named (nm "RNDIS_OUT" 1303 1312)) (nm "r" 1314 1315) ∷ []); condition = (Some (tree.Binary (sp 1323 1337) operator.GreaterEqual (sp 1331 1333) (tree.Name (sp 1324 1330) (nm "length" 1324 1330)) (tree.Number (sp 1334 1336) 28 Decimal))) }); fields = (record { type_tree = (record { span = (sp 1340 1346); kind = type.Number (number Four LittleEndian) }); name = (nm "requestId" 1347 1356); extent = None; refinement = None; action = (Some (Done Act (sp 1357 1362) (StoreField (sp 1363 1388) (nm "r" 1363 1364) (nm "RequestId" 1366 1375) (Value (tree.Name (sp 1378 1387) (nm "requestId" 1378 1387))) ∷ []))) } ∷ record { type_tree = (record { span = (sp 1391 1397); kind = type.Number (number Four LittleEndian) }); name = (nm "oid" 1398 1401); extent = None; refinement = None; action = None } ∷ record { type_tree = (record { span = (sp 1403 1409); kind = type.Number (number Four LittleEndian) }); name = (nm "infoLength" 1410 1420); extent = None; refinement = (Some (tree.Binary (sp 1423 1448) operator.LessEqual (sp 1434 1436) (tree.Name (sp 1423 1433) (nm "infoLength" 1423 1433)) (tree.Binary (sp 1437 1448) operator.Subtract (sp 1444 1445) (tree.Name (sp 1437 1443) (nm "length" 1437 1443)) (tree.Number (sp 1446 1448) 28 Decimal)))); action = None } ∷ record { type_tree = (record { span = (sp 1452 1458); kind = type.Number (number Four LittleEndian) }); name = (nm "infoOffset" 1459 1469); extent = None; refinement = (Some (tree.Binary (sp 1472 1507) operator.Or (sp 1488 1490) (tree.Binary (sp 1472 1487) operator.Equal (sp 1483 1485) (tree.Name (sp 1472 1482) (nm "infoLength" 1472 1482)) (tree.Number (sp 1486 1487) 0 Decimal)) (tree.Binary (sp 1491 1507) operator.Equal (sp 1502 1504) (tree.Name (sp 1491 1501) (nm "infoOffset" 1491 1501)) (tree.Number (sp 1505 1507) 20 Decimal)))); action = None } ∷ record { type_tree = (record { span = (sp 1511 1517); kind = type.Number (number Four LittleEndian) }); name = (nm "reserved" 1518 1526); extent = None; refinement = None; action = None } ∷ record { type_tree = (record { span = (sp 1528 1533); kind = type.Number (number One LittleEndian) }); name = (nm "info" 1534 1538); extent = (Some (extent.Bytes (tree.Name (sp 1539 1549) (nm "infoLength" 1539 1549)))); refinement = None; action = (Some (Done Act (sp 1551 1556) (StoreField (sp 1557 1577) (nm "r" 1557 1558) (nm "Data" 1560 1564) (FieldPtr (sp 1567 1576)) ∷ StoreField (sp 1578 1605) (nm "r" 1578 1579) (nm "DataLength" 1581 1591) (Value (tree.Name (sp 1594 1604) (nm "infoLength" 1594 1604))) ∷ []))) } ∷ record { type_tree = (record { span = (sp 1608 1613); kind = type.Number (number One LittleEndian) }); name = (nm "tail" 1614 1618); extent = (Some (extent.Bytes (tree.Binary (sp 1619 1643) operator.Subtract (sp 1631 1632) (tree.Binary (sp 1619 1630) operator.Subtract (sp 1626 1627) (tree.Name (sp 1619 1625) (nm "length" 1619 1625)) (tree.Number (sp 1628 1630) 28 Decimal)) (tree.Name (sp 1633 1643) (nm "infoLength" 1633 1643))))); refinement = None; action = None } ∷ []); name = (nm "RNDIS_REQUEST" 1648 1661) }) ∷ Casetype (record { entry = false; tag = (nm "_RNDIS_BODY" 1672 1683); head = (record { params = (param.Value (plain.Number (record { number = (number Four LittleEndian); span = (sp 1684 1690) })) (nm "type" 1691 1695) ∷ param.Value (plain.Number (record { number = (number Four LittleEndian); span = (sp 1697 1703) })) (nm "length" 1704 1710) ∷ param.Mutable (target.Named (nm "RNDIS_OUT" 1720 1729)) (nm "r" 1731 1732) ∷ []); condition = None }); subject = (tree.Name (sp 1744 1748) (nm "type" 1744 1748)); cases = (record { constant = (constant.Number (record { value = 1; base = Decimal; span = (sp 1757 1758) })); fields = (record { type_tree = (record { span = (sp 1760 1772); kind = type.Named (codes "RNDIS_PACKET") ((tree.Name (sp 1773 1779) (nm "length" 1773 1779)) ∷ (tree.Name (sp 1781 1782) (nm "r" 1781 1782)) ∷ []) }); name = (nm "packet" 1784 1790); extent = None; refinement = None; action = None } ∷ []) } ∷ record { constant = (constant.Number (record { value = 2; base = Decimal; span = (sp 1797 1798) })); fields = (record { type_tree = (record { span = (sp 1800 1816); kind = type.Named (codes "RNDIS_INITIALIZE") ((tree.Name (sp 1817 1823) (nm "length" 1817 1823)) ∷ (tree.Name (sp 1825 1826) (nm "r" 1825 1826)) ∷ []) }); name = (nm "initialize" 1828 1838); extent = None; refinement = None; action = None } ∷ []) } ∷ record { constant = (constant.Number (record { value = 3; base = Decimal; span = (sp 1845 1846) })); fields = (record { type_tree = (record { span = (sp 1848 1859); kind = type.Named (codes "RNDIS_SHORT") ((tree.Name (sp 1860 1866) (nm "length" 1860 1866)) ∷ (tree.Name (sp 1868 1869) (nm "r" 1868 1869)) ∷ []) }); name = (nm "halt" 1871 1875); extent = None; refinement = None; action = None } ∷ []) } ∷ record { constant = (constant.Number (record { value = 4; base = Decimal; span = (sp 1882 1883) })); fields = (record { type_tree = (record { span = (sp 1885 1898); kind = type.Named (codes "RNDIS_REQUEST") ((tree.Name (sp 1899 1905) (nm "length" 1899 1905)) ∷ (tree.Name (sp 1907 1908) (nm "r" 1907 1908)) ∷ []) }); name = (nm "query" 1910 1915); extent = None; refinement = None; action = None } ∷ []) } ∷ record { constant = (constant.Number (record { value = 5; base = Decimal; span = (sp 1922 1923) })); fields = (record { type_tree = (record { span = (sp 1925 1938); kind = type.Named (codes "RNDIS_REQUEST") ((tree.Name (sp 1939 1945) (nm "length" 1939 1945)) ∷ (tree.Name (sp 1947 1948) (nm "r" 1947 1948)) ∷ []) }); name = (nm "set" 1950 1953); extent = None; refinement = None; action = None } ∷ []) } ∷ record { constant = (constant.Number (record { value = 6; base = Decimal; span = (sp 1960 1961) })); fields = (record { type_tree = (record { span = (sp 1963 1974); kind = type.Named (codes "RNDIS_RESET") ((tree.Name (sp 1975 1981) (nm "length" 1975 1981)) ∷ []) }); name = (nm "reset" 1983 1988); extent = None; refinement = None; action = None } ∷ []) } ∷ record { constant = (constant.Number (record { value = 8; base = Decimal; span = (sp 1995 1996) })); fields = (record { type_tree = (record { span = (sp 1998 2009); kind = type.Named (codes "RNDIS_SHORT") ((tree.Name (sp 2010 2016) (nm "length" 2010 2016)) ∷ (tree.Name (sp 2018 2019) (nm "r" 2018 2019)) ∷ []) }); name = (nm "keepalive" 2021 2030); extent = None; refinement = None; action = None } ∷ []) } ∷ []); default = None; name = (nm "RNDIS_BODY" 2036 2046) }) ∷ Struct (record { entry = true; tag = (nm "_RNDIS" 2074 2080); head = (record { params = (param.Value (plain.Number (record { number = (number Four LittleEndian); span = (sp 2081 2087) })) (nm "room" 2088 2092) ∷ param.Mutable (target.Named (nm "RNDIS_OUT" 2102 2111)) (nm "r" 2113 2114) ∷ []); condition = None }); fields = (record { type_tree = (record { span = (sp 2118 2124); kind = type.Number (number Four LittleEndian) }); name = (nm "type" 2125 2129); extent = None; refinement = None; action = (Some (Done Act (sp 2130 2135) (StoreField (sp 2136 2151) (nm "r" 2136 2137) (nm "Type" 2139 2143) (Value (tree.Name (sp 2146 2150) (nm "type" 2146 2150))) ∷ []))) } ∷ record { type_tree = (record { span = (sp 2154 2160); kind = type.Number (number Four LittleEndian) }); name = (nm "length" 2161 2167); extent = None; refinement = (Some (tree.Binary (sp 2170 2199) operator.And (sp 2182 2184) (tree.Binary (sp 2170 2181) operator.GreaterEqual (sp 2177 2179) (tree.Name (sp 2170 2176) (nm "length" 2170 2176)) (tree.Number (sp 2180 2181) 8 Decimal)) (tree.Binary (sp 2185 2199) operator.LessEqual (sp 2192 2194) (tree.Name (sp 2185 2191) (nm "length" 2185 2191)) (tree.Name (sp 2195 2199) (nm "room" 2195 2199))))); action = (Some (Done Act (sp 2202 2207) (StoreField (sp 2208 2227) (nm "r" 2208 2209) (nm "Length" 2211 2217) (Value (tree.Name (sp 2220 2226) (nm "length" 2220 2226))) ∷ []))) } ∷ record { type_tree = (record { span = (sp 2230 2240); kind = type.Named (codes "RNDIS_BODY") ((tree.Name (sp 2241 2245) (nm "type" 2241 2245)) ∷ (tree.Name (sp 2247 2253) (nm "length" 2247 2253)) ∷ (tree.Name (sp 2255 2256) (nm "r" 2255 2256)) ∷ []) }); name = (nm "body" 2258 2262); extent = None; refinement = None; action = None } ∷ []); name = (nm "RNDIS" 2266 2271) }) ∷ []), None) ∷
    []
